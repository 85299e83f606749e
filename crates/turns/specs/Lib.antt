-- Up to three arcs as words, and the arcs that a turn adds first.
pub mod Arcs
pub mod Laws
