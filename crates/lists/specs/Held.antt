-- A list of matrices held in words: its length, then its matrices, each with its columns first. Nothing is said of the
-- words after the columns of a matrix, or after the last matrix.
use Rattle.std.specs.Prelude.{◌≡◌, Bool, List, map, ℕ, ◌+◌, ◌*◌, ◌≤◌, T, length, drop}
use Rattle.definitions.specs.Lists.{◌!◌, up_from}
use Rattle.definitions.specs.Matrices.{Matrix, most_half, matrix_size}
use Rattle.definitions.specs.MatrixLists.{most_matrices, is_short, list_size}
use Rattle.matrix.specs.Shapes.{matrix_in}

-- the first word of the matrix at a place
abbrev pub start_of : (half place : ℕ) → ℕ
start_of half place = 1 + matrix_size half * place

-- the matrix in the words from a place on
abbrev pub columns_at : (half : ℕ) → (words : List ℕ) → (from : ℕ) → Matrix
columns_at half words from = matrix_in half (drop from words)

-- the matrix at a place of a list
abbrev pub matrix_at : (half : ℕ) → (words : List ℕ) → (place : ℕ) → Matrix
matrix_at half words place = columns_at half words (start_of half place)

unfoldable pub list_in : (half : ℕ) → (words : List ℕ) → List Matrix
list_in half words = map (matrix_at half words) (up_from 0 (words ! 0))

-- words that may hold a list
pub record HasRoom (half : ℕ) (words : List ℕ) : Type 0 where
  pub narrow : half ≤ most_half
  pub room : list_size half ≤ length words

-- words that hold one
pub record Holds (half : ℕ) (words : List ℕ) : Type 0 where
  pub space : HasRoom half words
  pub few : words ! 0 ≤ most_matrices

-- Words in which a list was made: the answer is whether it has at most eight matrices, and then they hold it.
pub record Became (half : ℕ) (list : List Matrix) (answer : Bool) (before after : List ℕ) : Type 0 where
  pub judged : answer ≡ is_short list
  pub sized : length after ≡ length before
  pub held : T answer → list_in half after ≡ list
