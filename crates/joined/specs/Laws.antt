-- The laws of this crate: the words of joined states, and entering one.
pub mod Rows
pub mod Entering
pub mod Going
