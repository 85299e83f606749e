-- What combining answers and leaves, and the laws about it.
pub mod Answers
pub mod Laws
