-- The laws of this crate: followers entered one by one, arcs performed, spans and copies, a metastate whose turn it is.
pub mod Following
pub mod PerformedArcs
pub mod Spans
pub mod Copying
pub mod Turns
pub mod Repeating
