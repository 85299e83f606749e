-- Document 02, P3: the meeting of two matrices, which ends where it has become hopeless.
use Rattle.std.specs.Prelude.{if◌then◌else◌, List, [], ◌∷◌, ℕ, suc, eqb}
use Rattle.std.specs.Int.Bits.{bit_and}
use Rattle.definitions.specs.Lists.{cleared}
use Rattle.definitions.specs.Matrices.{Matrix, most_columns, matrix_words, valid, meet}

-- "the meeting of two matrices should go from column 0 up and end at the first empty column. It also gives how
-- many columns it met, the empty one counted, or 2n+1 if there is none"
unfoldable pub columns_met : Matrix → Matrix → ℕ
columns_met [] [] = 0
columns_met [] (b ∷ n) = 0
columns_met (a ∷ m) [] = 0
columns_met (a ∷ m) (b ∷ n) = if eqb (bit_and a b) 0 then 1 else suc (columns_met m n)

-- the matrix that it gives, as it is kept: "an invalid meeting's matrix is then seven words 0"
unfoldable pub met_words : Matrix → Matrix → List ℕ
met_words m n = if valid (meet m n) then matrix_words (meet m n) else cleared most_columns
