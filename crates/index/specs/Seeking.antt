-- What the search for the followers of a matrix starts from.
use Rattle.std.specs.Prelude.{◌≡◌, List, false, ℕ, ◌≤◌, ◌<◌, length}
use Rattle.definitions.specs.declared.Header.{Header}
use Rattle.matrix.specs.Shapes.{width_of, matrix_in, HasWidth}
use Rattle.index.specs.declared.rows.Rows.{Rows}
use Rattle.index.specs.Combinations.{combinations_in, Usable}
use Rattle.index.specs.Indexing.{Indexed}
use Rattle.index.specs.Following.{follows_at}
use Rattle.index.specs.Rows.{Admitting}

-- combinations of the book, an index of them, and the seven words of a shifted matrix
pub record Seeking (header : Header) (words index columns : List ℕ) : Type 0 where
  pub usable : Usable header words
  pub indexed : Indexed header words index
  pub shaped : HasWidth (width_of header.half) columns

-- from a combination on, along rows for the matrix
pub record SeekingFrom (header : Header) (words index : List ℕ) (rows : Rows) (from : ℕ) (columns : List ℕ)
    : Type 0 where
  pub seeking : Seeking header words index columns
  pub within : from ≤ length (combinations_in header words)
  pub admitting : Admitting (matrix_in header.half columns) (combinations_in header words) index rows

-- a combination that is tried
pub record Tried (header : Header) (words : List ℕ) (number : ℕ) (columns : List ℕ) : Type 0 where
  pub usable : Usable header words
  pub shaped : HasWidth (width_of header.half) columns
  pub listed : number < length (combinations_in header words)

-- a combination that was tried and does not follow
pub record Failed (header : Header) (words index : List ℕ) (number : ℕ) (columns : List ℕ) : Type 0 where
  pub seeking : Seeking header words index columns
  pub listed : number < length (combinations_in header words)
  pub fails : follows_at (matrix_in header.half columns) (combinations_in header words) number ≡ false
