-- The laws of this crate: lent arcs that are known, and the arcs that leave a state, as they are handed out,
-- and where they begin; and what the place of a part says.
pub mod KnownArcs
pub mod Leaving
pub mod Said
pub mod Starting
