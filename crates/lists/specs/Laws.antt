-- The laws of this crate: lists held in words and their matrices by value, the order of matrices, a matrix put into a
-- list, lists that meet, are shifted, joined and compared, and the words of a list in a record.
pub mod Held
pub mod Values
pub mod Ordering
pub mod Inserting
pub mod Meeting
pub mod Shifting
pub mod Joining
pub mod Hulls
pub mod Comparing
pub mod Records
