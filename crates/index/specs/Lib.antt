-- Combinations in lent words, an index of them, rows of it, and the search for followers.
pub mod Combinations
pub mod RecordWords
pub mod Indexing
pub mod Filling
pub mod Following
pub mod Rows
pub mod Seeking
pub mod Laws
