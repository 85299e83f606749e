-- Lent tables, their roots in force, what is asked of them, the counts of names, and the laws about them.
pub mod Lending
pub mod Forcing
pub mod Usable
pub mod Records
pub mod Known
pub mod Trees
pub mod Naming
pub mod Laws
