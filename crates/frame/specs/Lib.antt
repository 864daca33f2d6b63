-- Document 01's section "Frames": the layout, what a framing is, the reader, the writer; then what is proved of them.
pub mod Layout
pub mod Framing
pub mod Reading
pub mod Writing
pub mod Helpers
pub mod Statements
