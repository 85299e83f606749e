-- What a walk gives, and the laws about it.
pub mod Answers
pub mod Laws
