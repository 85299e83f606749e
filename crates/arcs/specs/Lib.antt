-- Where the arcs that leave a state stand, how many stand before them, and the laws about lent arcs.
pub mod Arc
pub mod Spans
pub mod Whole
pub mod Below
pub mod Laws
