-- The laws of this crate, from a line as the code has it to the whole reading; foreign tables.
pub mod Judging
pub mod Storing
pub mod Stored
pub mod Taking
pub mod Reading
pub mod Answering
pub mod KnownWords
