-- The construction of a network: first of any table that grows by turns, up to a finished build, then of the
-- network that rules give.
pub mod Table
pub mod Performing
pub mod Turning
pub mod Expanding
pub mod Turns
pub mod Finished
pub mod Places
pub mod Sources
pub mod ArcRanges
