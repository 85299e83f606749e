-- The laws of this crate: phones, walks, that the two lookups agree, and what they answer; and the steps of a walk by
-- hand over a slice of node structs.
pub mod Phones
pub mod Walking
pub mod Agreement
pub mod Answering
pub mod Holding
