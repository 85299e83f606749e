-- The laws of this crate: from a line and its tests to the whole reading; writing; demand 2 of the two entries.
pub mod Rows
pub mod States
pub mod Taking
pub mod Keeping
pub mod Stored
pub mod Finishing
pub mod Reading
pub mod Answering
pub mod Writing
pub mod RoundTrips
