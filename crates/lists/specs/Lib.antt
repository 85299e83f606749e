-- How a list of matrices is held in words, what the functions over such words promise, and the laws about it.
pub mod Held
pub mod Ordering
pub mod Inserting
pub mod Meeting
pub mod Shifting
pub mod Joining
pub mod Laws
