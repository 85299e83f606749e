-- The key of a metastate, which its chain depends on.
use Rattle.std.specs.Prelude.{List, [], ◌∷◌, ℕ, ◌*◌, ◌/◌, ◌%◌, ◌^◌, drop}
use Rattle.std.specs.Int.Bits.{bit_xor}
use Rattle.definitions.specs.Lists.{◌!◌}

-- a word turned by 26 bits
abbrev pub turned : (word : ℕ) → ℕ
turned word = bit_xor (word * 2 ^ 26 % 2 ^ 64) (word / 2 ^ 38)

-- a key, below 65521, of a number and columns
unfoldable pub key_from : (key : ℕ) → (columns : List ℕ) → ℕ
key_from key [] = key % 65521
key_from key (column ∷ columns) = key_from (bit_xor (turned key) column) columns

unfoldable pub key_of : (row : List ℕ) → ℕ
key_of row = key_from (row ! 0) (drop 1 row)
