-- The laws of this crate: the place of a set, the tree at a node, then collecting and numbering.
pub mod Sets
pub mod LentTrees
pub mod Collecting
pub mod Numbering
pub mod Writing
pub mod Spelling
