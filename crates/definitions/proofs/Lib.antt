-- The laws about the definitions, and the theorems.
pub mod Laws
pub mod Construction
pub mod Graph
pub mod Demand
pub mod Spelling
pub mod Joined
pub mod Examples
