-- Demand 3: the whole path theorem, step by step; then, that nothing leaves FINAL, and that network text can
-- hold every network.
pub mod Windows
pub mod TreeWindows
pub mod Carrier
pub mod ListCarrier
pub mod Chains
pub mod Trees
pub mod Chosen
pub mod Choices
pub mod ChoicesAlong
pub mod Network
pub mod Passages
pub mod Sentences
pub mod Ways
pub mod Meaning
pub mod Alive
pub mod ProperNetwork
pub mod Main
pub mod Assembly
pub mod Demand
pub mod Endings
pub mod BuiltKnown
