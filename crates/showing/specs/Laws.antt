-- The laws of this crate: the steps and the ends of loops, and what is cut out.
pub mod Using
pub mod Titles
