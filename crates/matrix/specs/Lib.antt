-- What shaping and writing matrices gives, column by column and word by word, and the laws about it.
pub mod Shapes
pub mod Words
pub mod Laws
