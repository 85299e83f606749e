-- Laws about walks and leaves, contexts, and the combinations of leaves.
pub mod Walks
pub mod WalkByLines
pub mod ModelsAlong
pub mod Utterances
pub mod Leaves
pub mod LeafMatrices
pub mod Ascending
pub mod LeafSets
pub mod Contexts
