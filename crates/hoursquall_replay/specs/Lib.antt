-- How a replay is handed out as numbers, and what is proved of the numbers that are kept between calls.
pub mod Replay
pub mod Statements
