-- The laws of one step, the theorem over whole runs, and what one step can come to.
pub mod Answers
pub mod Steps
pub mod Theorem
pub mod Outcome
pub mod Corollaries
