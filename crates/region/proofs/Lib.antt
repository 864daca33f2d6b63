-- The laws of a region. Crates above cite them.
pub mod Answers
