-- What is proved of the block that C keeps.
pub mod Theorems
