-- The laws of this crate: starting and turning; refusals; combinations that can be connected;
-- what a build says; the build as a whole.
pub mod Starting
pub mod Beginning
pub mod Refused
pub mod Turning
pub mod Connecting
pub mod Nodes
pub mod PhoneEnds
pub mod UsableCombinations
pub mod Said
pub mod Building
