-- Choices of leaves, combinations in lent space, and the laws about adding them.
pub mod Choices
pub mod Space
pub mod Laws
