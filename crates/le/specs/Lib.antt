-- What the crate `le` means by a word, a sum, the same bytes and a copy: the definitions that its contracts cite.
pub mod Word
pub mod Sum
pub mod Compare
pub mod Copy
