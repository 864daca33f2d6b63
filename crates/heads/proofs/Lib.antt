-- The laws of places and of a call's answers, what a call can come to, and what follows for the rule, its refusals, buffers that agree and whole runs; then the laws of places kept as numbers.
pub mod Seats
pub mod Answers
pub mod Calls
pub mod Legal
pub mod Refusals
pub mod Agreeing
pub mod Alone
pub mod Demand
pub mod Rows
pub mod Carried
