-- The theorems on what C keeps between calls.
pub mod Theorems
