-- Trees in lent words, what is noted and numbered of them, and the laws about it.
pub mod LentTrees
pub mod Collecting
pub mod Numbering
pub mod Laws
