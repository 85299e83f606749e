-- The laws of this crate: what answers say; the tables kept or cleared; reading and building put together, and of
-- what they leave demand 3, and that nothing leaves FINAL.
pub mod Said
pub mod Keeping
pub mod Building
