-- The laws of this crate, from a line taken to the whole reading.
pub mod Putting
pub mod Taking
pub mod Steps
pub mod Keeping
pub mod Readying
pub mod Stored
pub mod Finding
pub mod Finishing
pub mod Reading
pub mod Answering
