-- How several senders' reassembly is handed out as numbers, and what is proved of the numbers that are kept between calls.
pub mod Heads
pub mod Statements
