-- The laws of the kinds, of the checks, of the search and of the choice, and the theorems. Crates above cite them.
pub mod Listing
pub mod Answers
pub mod Searching
pub mod Theorems
pub mod Laid
