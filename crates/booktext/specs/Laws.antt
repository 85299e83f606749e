-- The laws of this crate: one line written, lines one after the other, the lines of each part of a book and of all, and
-- the text that they are.
pub mod OneLine
pub mod Putting
pub mod ClassLines
pub mod NodeLines
pub mod BoundaryLines
pub mod RootLines
pub mod AllLines
pub mod Texts
