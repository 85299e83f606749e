-- The laws of this crate: chains, a growing table kept in words, and more of it; what is performed, and what a step
-- leaves.
pub mod Heads
pub mod Finding
pub mod Linking
pub mod KeptBack
pub mod KeptMore
pub mod Entered
pub mod Steps
pub mod Entering
pub mod Going
pub mod Performing
pub mod Turning
