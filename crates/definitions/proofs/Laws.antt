-- The laws about the definitions, by what they are about. Files named Known.. say what passes a test for foreign words
-- (18), files named ..Known that something passes it.
pub mod Lists
pub mod Text
pub mod Matrices
pub mod Books
pub mod Trees
pub mod Networks
pub mod Words
pub mod Results
