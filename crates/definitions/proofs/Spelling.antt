-- Document 02, P1: one spelling of a book, step by step.
pub mod TreeShapes
pub mod FirstUses
pub mod PlainTrees
pub mod PlainNames
pub mod TreesThere
pub mod TreeSizes
pub mod TreeFits
pub mod PlainRoots
pub mod PlainStated
pub mod TreeModels
pub mod SameTexts
pub mod PlainModels
pub mod GivenFew
pub mod PlainLengths
pub mod OneSpelling
