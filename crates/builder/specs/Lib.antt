-- What reading and building together answer, and the laws about it.
pub mod Answers
pub mod Tables
pub mod Laws
