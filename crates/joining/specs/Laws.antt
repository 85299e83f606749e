-- The laws of this crate.
pub mod Expanding
pub mod Turning
pub mod Beginning
pub mod Starting
pub mod Lending
pub mod Answering
