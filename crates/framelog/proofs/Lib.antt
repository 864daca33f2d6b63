-- The laws of records, and the theorems. Crates above cite them.
pub mod Zeros
pub mod Answers
pub mod Theorems
