-- The hull of a list: matrices joined column by column.
use Rattle.std.specs.Prelude.{List, [], ◌∷◌, ℕ, replicate}
use Rattle.std.specs.Int.Bits.{bit_or}
use Rattle.definitions.specs.Matrices.{Matrix}

-- the phones that one of two matrices has, column by column
unfoldable pub join : Matrix → Matrix → Matrix
join [] n = []
join (a ∷ m) [] = []
join (a ∷ m) (b ∷ n) = bit_or a b ∷ join m n

-- those that some matrix of a list has
unfoldable pub hull_from : (sofar : Matrix) → List Matrix → Matrix
hull_from sofar [] = sofar
hull_from sofar (m ∷ l) = hull_from (join sofar m) l

unfoldable pub hull : (width : ℕ) → List Matrix → Matrix
hull width l = hull_from (replicate width 0) l
