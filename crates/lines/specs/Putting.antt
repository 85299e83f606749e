-- Words put into a lent table.
use Rattle.std.specs.Prelude.{List, ◌++◌, ℕ, ◌+◌, length, take, drop}

-- words put into a table from a place on
unfoldable pub put_at : (at : ℕ) → (words table : List ℕ) → List ℕ
put_at at words table = take at table ++ words ++ drop (at + length words) table
