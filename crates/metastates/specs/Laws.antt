-- The laws of this crate: keys, a network held in words, what a step leaves, and entering.
pub mod Keys
pub mod HeldBack
pub mod HeldRows
pub mod States
pub mod Steps
pub mod ArcInto
pub mod Entering
