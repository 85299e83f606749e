-- What a line says and what is kept of the lines taken so far, and the laws about it.
pub mod Entries
pub mod States
pub mod Laws
