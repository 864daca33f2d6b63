pub mod Answer
-- How the answers of the crates are handed out as numbers, and what is proved of the numbers that are kept between calls.
pub mod Frame
pub mod Notice
pub mod Reassembly
pub mod Sfi
pub mod Ubios
pub mod Statements
