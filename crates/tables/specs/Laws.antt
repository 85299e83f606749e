-- The laws of this crate: records, counts of names, the tests for foreign tables, the roots in force, and what tables
-- that pass the tests hold.
pub mod Records
pub mod Naming
pub mod RecordTests
pub mod TableTests
pub mod PhoneTests
pub mod NamingTables
pub mod LookupOrder
pub mod Roots
pub mod Forcing
pub mod KnownTables
