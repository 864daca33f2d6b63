-- Document 01's section "The frame log": a record, read and written, and what is proved of it.
pub mod Layout
pub mod Reading
pub mod Writing
pub mod Statements
pub mod Helpers
