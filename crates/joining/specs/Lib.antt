-- Turns of a join, its beginning, and what it leaves and answers.
pub mod Turns
pub mod Beginning
pub mod Answers
pub mod Laws
