-- Graphs: accepting paths, and what they carry.
pub mod Graph
pub mod ArcPaths
pub mod Arcs
pub mod Once
pub mod Ways
pub mod Carried
pub mod Theorem
