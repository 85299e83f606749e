-- The key of a metastate, networks in lent words; what each step of a build leads to, starts from and leaves.
pub mod Keys
pub mod Networks
pub mod Outcomes
pub mod Steps
pub mod Underway
pub mod Laws
