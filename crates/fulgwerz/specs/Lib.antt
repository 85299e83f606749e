-- What the functions for C answer, and the laws about it.
pub mod Answers
pub mod Laws
