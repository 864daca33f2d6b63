-- The laws of decimal text and of text in an output, and the theorems. Crates above cite them.
pub mod Digits
pub mod Output
pub mod Theorems
