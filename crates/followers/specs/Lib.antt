-- Spans of arcs and copies of them; what following starts from and leaves.
pub mod Spans
pub mod Repeating
pub mod Turns
pub mod Laws
