-- The laws of reading and writing, and the theorems that `specs/` states of them.
pub mod Reading
pub mod Counting
pub mod Writing
pub mod Theorems
