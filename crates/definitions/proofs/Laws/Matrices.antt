-- Laws about sets of phones, about matrices, as lists of any width and as seven words, and about lists of them.
pub mod PhoneSets
pub mod Matrices
pub mod SevenWords
pub mod Sizes
pub mod Meeting
pub mod MatrixLists
