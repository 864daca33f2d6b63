-- Document 01, "Numbers to check by": the starred ones of what is built so far.
pub mod Cases
