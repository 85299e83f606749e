-- What the functions that write the lines of a book leave, and the laws about it.
pub mod Putting
pub mod Parts
pub mod Laws
