-- The rules of a lent region: which headers lie outside it, and what is proved of that.
pub mod Region
pub mod Statements
