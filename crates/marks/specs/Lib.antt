-- A table of words as a whole, words by their first phone, and what leads on from a mark.
pub mod Lexicon
pub mod Openings
pub mod Wanting
pub mod Laws
