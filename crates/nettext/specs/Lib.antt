-- What reading and writing network text keep and store, and the laws about it.
pub mod Entries
pub mod States
pub mod Storing
pub mod Taking
pub mod Writing
pub mod Laws
