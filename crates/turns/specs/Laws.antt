-- The laws of this crate: a metastate's own arcs, its plain arcs, arcs appended, and the turn.
pub mod OwnArcs
pub mod PlainArcs
pub mod Appended
pub mod Expanding
