-- What comparing and cutting answer, and the laws about them.
pub mod Used
pub mod Titles
pub mod Laws
