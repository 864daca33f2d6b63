-- The laws of words and sums, once over the width. Crates above cite them.
pub mod Comparing
pub mod Copying
pub mod Parts
pub mod Words
pub mod Sums
pub mod Summing
pub mod Tests
