-- Examples and the starred cases of document 01, and examples of document 02.
pub mod Everything
pub mod Example
pub mod Starred
pub mod Refusals
pub mod LentTables
pub mod Meaning
pub mod Applied
pub mod Spellings
pub mod Boundaries
pub mod Meetings
pub mod MatrixLists
pub mod WordBooks
pub mod Joining
pub mod Questions
