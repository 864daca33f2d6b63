-- Document 02, Q-2: "Play a recorded day." A log's records, what each comes to, the lines of text, and what is proved of them.
pub mod Log
pub mod Day
pub mod Lines
pub mod Chunk
pub mod Statements
pub mod Helpers
