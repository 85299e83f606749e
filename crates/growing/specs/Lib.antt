-- Elements found by chains, a growing table in lent words, and what each step of growing leaves.
pub mod Chains
pub mod Walks
pub mod Kept
pub mod Steps
pub mod Laws
