-- The laws of this crate: rows that fit a line, a number written from the right, a line field by field, and what is
-- answered.
pub mod Rows
pub mod Writing
pub mod WrittenLines
pub mod Answering
