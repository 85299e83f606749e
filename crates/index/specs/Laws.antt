-- The laws of this crate: the words of records, followers, the index filled, and its rows.
pub mod RecordWords
pub mod CutRecords
pub mod Followers
pub mod NextMember
pub mod Filling
pub mod Rows
