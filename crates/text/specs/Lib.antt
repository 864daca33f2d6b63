-- Numbers as text, text put into an output, and what is proved of both.
pub mod Decimal
pub mod Output
pub mod Statements
