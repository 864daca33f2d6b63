-- Document 02, Q-7: several senders on one cable. The places, one step over them, the numbers that they are kept as; then whole runs, and what is claimed of them.
pub mod Places
pub mod Step
pub mod Numbers
pub mod Run
pub mod Statements
pub mod Helpers
