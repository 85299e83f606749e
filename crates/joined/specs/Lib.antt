-- Joined states in lent words, and what entering one starts from and leaves.
pub mod States
pub mod Joins
pub mod Laws
