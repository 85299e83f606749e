-- What a build answers, what connecting starts from and leaves, and the laws about it.
pub mod Answers
pub mod Connected
pub mod Workspace
pub mod Laws
