-- Leaves in lent words, what listing them works with, and the laws about it.
pub mod Leaves
pub mod Working
pub mod Laws
