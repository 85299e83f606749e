-- Words written from a place on over others, as many as there are; and the seven words of a matrix read.
use Rattle.std.specs.Prelude.{List, ◌++◌, ℕ, ◌+◌, ◌-◌, length, take, drop}
use Rattle.definitions.specs.Lists.{padded}
use Rattle.definitions.specs.Matrices.{most_columns}

unfoldable pub overwritten : (words : List ℕ) → (at : ℕ) → (new : List ℕ) → List ℕ
overwritten words at new = take at words ++ take (length words - at) new ++ drop (at + length new) words

-- the seven words that words begin, 0 where there are no more
abbrev pub first_seven : (words : List ℕ) → List ℕ
first_seven words = take most_columns (padded most_columns words)
