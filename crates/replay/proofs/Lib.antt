-- The laws of a day's records and lines, and the theorems. Crates above cite them.
pub mod Logs
pub mod Playing
pub mod Texts
pub mod Spans
pub mod Parts
pub mod Days
pub mod Rooms
