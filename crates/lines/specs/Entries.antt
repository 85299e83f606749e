-- What one field gives the row of its line.
use Rattle.std.specs.Prelude as code
use Rattle.std.specs.Prelude.{List, Bool, true, false, ℕ, ◌+◌, ◌*◌, take, drop}
use Rattle.std.proofs.Math.Option.{Option, none, some}
use Rattle.definitions.specs.Lines.{Field, blank, malformed, number, field_of}
use Rattle.lines.specs.Rows.{option_of}

-- the field at a place of a line, of fewer bytes where the line ends in it
unfoldable pub field_at : List ℕ → (field : ℕ) → Field
field_at bytes field = field_of (take 6 (drop (1 + 6 * field) bytes))

-- a number where the letter uses the field, 0 for a blank where it does not; else the line is malformed
unfoldable pub field_entry : (used : Bool) → Field → Option ℕ
field_entry true (number n) = some n
field_entry true blank = none
field_entry true malformed = none
field_entry false (number n) = none
field_entry false blank = some 0
field_entry false malformed = none

-- and as the code answers it
abbrev pub entry_of : (used : Bool) → Field → code.Option ℕ
entry_of used field = option_of (λ n. n) (field_entry used field)
