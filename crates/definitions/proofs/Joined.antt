-- Document 02, P4: the paths of a network joined with words, step by step.
pub mod States
pub mod Finishing
pub mod Automaton
pub mod Spelling
pub mod Speaking
pub mod Words
pub mod Product
pub mod Laid
pub mod Exactly
pub mod Spoken
pub mod JoinedPaths
pub mod Lessons
