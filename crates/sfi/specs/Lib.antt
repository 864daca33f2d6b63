-- Document 01's section "SFI tables": the kinds, the check of a table and its entries, the search for SYST, the choice, and what is proved of them.
pub mod Kinds
pub mod Checks
pub mod Search
pub mod Choice
pub mod Statements
