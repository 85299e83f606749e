-- Laws about lists, their elements and their order, and about tests.
pub mod Tests
pub mod Lists
pub mod Same
pub mod Searching
pub mod Members
pub mod FirstWhere
pub mod Counting
pub mod Places
pub mod Selected
pub mod Occurrences
pub mod Sums
pub mod Fewer
pub mod Products
pub mod Orders
pub mod Rising
pub mod Records
