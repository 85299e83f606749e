-- What moves along an arc lead to, start from and leave.
pub mod Moving
pub mod Skipping
pub mod Laws
