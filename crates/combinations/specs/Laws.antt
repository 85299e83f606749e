-- The laws of this crate: the working lists, the first choice of a phone, phone after phone, and the answer,
-- which what it says determines.
pub mod Working
pub mod Starting
pub mod Phones
pub mod Combining
pub mod Said
