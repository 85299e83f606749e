-- What the program has read and printed, and the laws about it.
pub mod Printing
pub mod Reading
pub mod Demand
pub mod Laws
