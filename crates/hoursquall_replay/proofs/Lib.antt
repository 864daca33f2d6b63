-- The theorems on what C keeps of a replay.
pub mod Chunks
