-- What the functions that write a line leave, what writing a text answers, and the laws about it.
pub mod Writing
pub mod Answers
pub mod Laws
