-- The laws of this crate: sets of phones, the columns of a matrix, words that a loop writes, the meeting of two
-- matrices, that the shift of seven words is the shift of the matrix, and seven words that hold a matrix of so many
-- columns.
pub mod Sets
pub mod Columns
pub mod Words
pub mod Meeting
pub mod Shapes
pub mod Widths
