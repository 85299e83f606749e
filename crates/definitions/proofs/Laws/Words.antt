-- Laws about word books: the words that lines say, accepted word books, and tables of words that reading leaves.
pub mod WordsSaid
pub mod WordLines
pub mod Rows
pub mod OneMore
pub mod AcceptedWords
pub mod WordTables
pub mod WrittenWords
pub mod WordsExactly
