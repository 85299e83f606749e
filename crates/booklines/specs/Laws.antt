-- The laws of this crate: rows of a line, its tests, boundary phones, and what is kept of the lines so
-- far.
pub mod Rows
pub mod Judged
pub mod Boundaries
pub mod LeavingOut
pub mod States
