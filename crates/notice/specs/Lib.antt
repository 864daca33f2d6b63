-- Document 01's section "The notice ring": one post and one take, then lists of them, on the ring and on the queue that it is, and the claim.
pub mod Ring
pub mod Queue
pub mod Statements
