-- The laws of a ring that is turned, and of what is written and read round it; the laws of a post and a take.
pub mod Turning
pub mod Answers
pub mod Queue
pub mod Theorem
