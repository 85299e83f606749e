-- How wide a book's matrices are, matrices made anew, and the shift on the seven words of a matrix.
use Rattle.std.specs.Prelude.{if◌then◌else◌, ◌≡◌, List, ◌∷◌, ◌++◌, map, ℕ, suc, ◌+◌, ◌*◌, ltb, eqb, take, replicate}
use Rattle.definitions.specs.Lists.{◌!◌, up_from}
use Rattle.definitions.specs.Matrices.{Matrix, most_columns, matrix_words}

-- the columns of a book's matrices
abbrev pub width_of : (half : ℕ) → ℕ
width_of half = 2 * half + 1

-- the matrix of a book that seven words hold
abbrev pub matrix_in : (half : ℕ) → (columns : List ℕ) → Matrix
matrix_in half columns = take (width_of half) columns

-- seven words that hold a matrix of so many columns, and 0 after it
abbrev pub HasWidth : (width : ℕ) → (columns : List ℕ) → Type 0
HasWidth width columns = columns ≡ matrix_words (take width columns)

-- n columns of one set, the centre, n columns of another
abbrev pub columns_around : (half left centre right : ℕ) → Matrix
columns_around half left centre right = replicate half left ++ (centre ∷ replicate half right)

-- a column of the words after the shift of the columns up to `last`, which takes all phones
unfoldable pub shifted_column : (last all : ℕ) → (columns : List ℕ) → (column : ℕ) → ℕ
shifted_column last all columns column =
    if eqb column last then all else
    (if ltb last column then columns ! column else columns ! suc column)

unfoldable pub shifted_words : (last all : ℕ) → (columns : List ℕ) → List ℕ
shifted_words last all columns = map (shifted_column last all columns) (up_from 0 most_columns)
