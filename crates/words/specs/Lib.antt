-- What reading a word book keeps and stores, and the laws about it.
pub mod Entries
pub mod Storing
pub mod Taking
pub mod Laws
