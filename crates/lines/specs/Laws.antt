-- The laws of this crate: loops, the tables of letters, then reading a line.
pub mod Passing
pub mod Chains
pub mod Filling
pub mod Putting
pub mod Tables
pub mod Fields
pub mod Ranges
pub mod Parsing
pub mod Rows
pub mod Texts
pub mod Judging
