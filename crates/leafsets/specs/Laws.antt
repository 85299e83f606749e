-- The laws of this crate: leaves put into a table and listed.
pub mod PuttingLeaves
pub mod LastNodes
pub mod WalkingLeaves
pub mod ListingLeaves
pub mod CollectingLeaves
pub mod TreeLeaves
