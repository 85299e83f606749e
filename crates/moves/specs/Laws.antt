-- The laws of this crate.
pub mod Moving
pub mod Skipping
pub mod Opening
pub mod Between
pub mod Following
