-- The laws of this crate: networks that were built, written and read again; the line of a refusal and the text of a
-- network printed, what a book prints, and that enough is read of every input.
pub mod BuiltNetworks
pub mod RoundTrips
pub mod Printing
pub mod Reading
pub mod Books
pub mod Demand
