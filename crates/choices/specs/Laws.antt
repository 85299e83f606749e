-- The laws of this crate: combinations added to the space, and lists of leaves that choices are made from.
pub mod Grown
pub mod LeafLists
pub mod Adding
pub mod Choosing
pub mod ReadBack
