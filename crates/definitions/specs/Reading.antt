-- Document 01, "Fault numbers", its last paragraph: the order in which a text's lines are judged, one for
-- every kind of text.
use Rattle.std.specs.Prelude.{List, [], ◌∷◌, ◌++◌, Bool, not, ℕ, suc}
use Rattle.std.proofs.Math.Option.{none, some}
use Rattle.definitions.specs.declared.Fault.TheVariants.{Ragged, Misprint, Range, Order, Count}
use Rattle.definitions.specs.Faults.{Outcome, answered, refuse, Test, ◌unless◌, judge, and_then}
use Rattle.definitions.specs.Forms.{Form}
use Rattle.definitions.specs.Lines.{Line, line_of, in_fixed_ranges, lines_of, whole_lines}

-- A kind of text: the lines it is made of, and what is asked of each after the lines `before` it.
pub record Kind (L : Type 0) : Type 0 where
  pub forms : List Form
  -- a line as one of this kind's lines
  pub view : Line → L
  -- "a letter in the wrong place": whether a line of this letter may stand next
  pub follows : (before : List L) → L → Bool
  -- "the header's counts": whether a line's numbers lie within the counts that the first line states
  pub within_counts : (before : List L) → L → Bool
  -- "numbers out of the order above": whether a line's numbers come next
  pub in_order : (before : List L) → L → Bool
  -- what else is asked of a line, after the others
  pub further_tests : (before : List L) → L → List Test
  -- 17, "going on": whether no line may follow these
  pub full : List L → Bool
  -- 17, "ending early": whether the text may end after these
  pub enough : List L → Bool
  -- what is judged of all lines after the last
  pub after_last : List L → Outcome (List L)

-- "14 for the letter, 13, 14 for the numbers", then the further tests
unfoldable pub line_tests : {L : Type 0} → Kind L → List L → Line → List Test
line_tests kind before line =
    Order unless kind.follows before (kind.view line)
    ∷ Range unless in_fixed_ranges kind.forms line
    ∷ Range unless kind.within_counts before (kind.view line)
    ∷ Order unless kind.in_order before (kind.view line)
    ∷ kind.further_tests before (kind.view line)

-- 12, or the line
unfoldable pub line_read : List Form → (at : ℕ) → (bytes : List ℕ) → Outcome Line
line_read forms at bytes = elim (line_of forms bytes) [ none ↦ refuse Misprint at | some line ↦ answered line ]

-- the lines before, and this one
abbrev pub with_line : {L : Type 0} → Kind L → (before : List L) → Line → List L
with_line kind before line = before ++ (kind.view line ∷ [])

-- "line by line 17 (going on), 12, ..; then 17 (ending early, line one past the last)", from line number `at`
unfoldable pub read_from : {L : Type 0} → Kind L
    → (at : ℕ) → (before : List L) → (lines : List (List ℕ)) → Outcome (List L)
read_from kind at before [] = judge at (Count unless kind.enough before ∷ []) (kind.after_last before)
read_from kind at before (bytes ∷ rest) =
    judge at (Count unless not (kind.full before) ∷ [])
    (and_then (line_read kind.forms at bytes)
    (λ line. judge at (line_tests kind before line) (read_from kind (suc at) (with_line kind before line) rest)))

-- "11 over the whole text, with line 0; then line by line"
unfoldable pub read_text : {L : Type 0} → Kind L → (text : List ℕ) → Outcome (List L)
read_text kind text = judge 0 (Ragged unless whole_lines text ∷ []) (read_from kind 1 [] (lines_of text))
