-- What rows, places and entries mean, and the laws about them.
pub mod Putting
pub mod Rows
pub mod Judging
pub mod Places
pub mod Entries
pub mod Laws
