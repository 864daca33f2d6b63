-- The laws of the checks and of the look-up, and the theorems. Crates above cite them.
pub mod Answers
pub mod Names
pub mod Walking
mod Ranges
pub mod Theorems
pub mod Laid
