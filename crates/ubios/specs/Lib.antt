-- Document 01's section "UBIOS tables": the words of a table, the checks of a table and of the root, the look-up by name, and what is proved of it.
pub mod Layout
pub mod Checks
pub mod Lookup
pub mod Statements
pub mod Helpers
