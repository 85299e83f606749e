-- The laws of this crate: words of a table, words by their first phone and how that index is walked, and what leads on.
pub mod Lexicon
pub mod Openings
pub mod Walking
pub mod Wanting
