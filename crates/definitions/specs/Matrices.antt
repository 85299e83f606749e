-- Document 01, "Matrices and metastates", its first paragraph and the shift: matrices of 2n+1 columns, each
-- a set of phones. Nothing here but `root_matrix` knows the width: it is the length of the list.
use Rattle.std.specs.Prelude.{List, [], ◌∷◌, ◌++◌, Bool, not, ℕ, zero, suc, ◌+◌, eqb, drop, replicate}
use Rattle.std.specs.Int.Bits.{bit_and}
use Rattle.definitions.specs.Lists.{every, padded}
use Rattle.definitions.specs.PhoneSets.{has, alone, all_phones, without}

-- "A matrix has 2n+1 columns, each a set of phones"
abbrev pub Matrix : Type 0
Matrix = List ℕ

-- "it is kept as seven 64-bit words, the unused ones 0": a book's n is at most 3
abbrev pub most_half : ℕ
most_half = 3

abbrev pub most_columns : ℕ
most_columns = 7

unfoldable pub matrix_words : Matrix → List ℕ
matrix_words m = padded most_columns m

-- how many words it takes in a record of a book with this n. Proofs know of it what proofs/Laws/Matrices/Sizes says.
unfoldable pub matrix_size : (half : ℕ) → ℕ
matrix_size half = most_columns

unfoldable pub matrix_record : (half : ℕ) → Matrix → List ℕ
matrix_record half m = padded (matrix_size half) m

-- "A root's matrix for phone p has all phones in every column but column n, which has p alone."
unfoldable pub root_matrix : (half phones p : ℕ) → Matrix
root_matrix half phones p = replicate half (all_phones phones) ++ (alone p ∷ replicate half (all_phones phones))

-- "Yes keeps in the question's column the class's members"
unfoldable pub yes_side : (position set : ℕ) → Matrix → Matrix
yes_side position set [] = []
yes_side zero set (column ∷ m) = bit_and column set ∷ m
yes_side (suc position) set (column ∷ m) = column ∷ yes_side position set m

-- "no keeps the others"
unfoldable pub no_side : (position set : ℕ) → Matrix → Matrix
no_side position set [] = []
no_side zero set (column ∷ m) = without column set ∷ m
no_side (suc position) set (column ∷ m) = column ∷ no_side position set m

-- "A matrix is valid if no column is empty."
unfoldable pub valid : Matrix → Bool
valid m = every (λ column. not (eqb column 0)) m

-- two matrices meet column by column
unfoldable pub meet : Matrix → Matrix → Matrix
meet [] [] = []
meet [] (b ∷ n) = []
meet (a ∷ m) [] = []
meet (a ∷ m) (b ∷ n) = bit_and a b ∷ meet m n

-- "Shift: column c takes old column c+1, the last column takes all phones."
unfoldable pub shift : (phones : ℕ) → Matrix → Matrix
shift phones m = drop 1 m ++ (all_phones phones ∷ [])

-- "with columns 0..n−1 cut to {1}": the start of a sentence, where silence stands to the left
unfoldable pub start_cut : (half : ℕ) → Matrix → Matrix
start_cut zero m = m
start_cut (suc half) [] = []
start_cut (suc half) (column ∷ m) = bit_and column (alone 1) ∷ start_cut half m

-- "columns n+1..2n all hold 1": silence may stand to the right
unfoldable pub ends_here : (half : ℕ) → Matrix → Bool
ends_here half m = every (has 1) (drop (half + 1) m)
