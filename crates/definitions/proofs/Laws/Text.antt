-- Laws about numerals, fields, lines and texts, and how they are judged and read.
pub mod Judging
pub mod Said
pub mod Numerals
pub mod Fields
pub mod LineFields
pub mod Lines
pub mod LineBytes
pub mod Reading
pub mod WrittenTexts
pub mod RefusalLines
pub mod Ranges
