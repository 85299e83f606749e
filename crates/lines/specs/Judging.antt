-- What becomes of a line, in any kind of text: it passes its tests, or the first that fails gives its fault.
use Rattle.std.specs.Prelude.{if◌then◌else◌, List, [], ◌∷◌, map, Bool, ℕ, ◌*◌, take, drop, Result, Ok, Err, ⊤}
use Rattle.std.proofs.Math.Option.{none, some}
use Rattle.definitions.specs.declared.Fault.{Fault}
use Rattle.definitions.specs.declared.Fault.TheVariants.{Misprint, Count}
use Rattle.definitions.specs.Faults.{Test}
use Rattle.definitions.specs.Forms.{Form}
use Rattle.definitions.specs.Lines.{Line, line_of, lines_of}
use Rattle.definitions.specs.Reading.{Kind, line_tests}
use Rattle.lines.specs.Rows.{line_in, parsed_of, given}

-- what is said of a line: nothing where it passes, else its fault
abbrev pub Verdict : Type 0
Verdict = Result ⊤ Fault

-- the first test that fails gives the fault
unfoldable pub verdict_of : List Test → Verdict
verdict_of [] = Ok tt
verdict_of (t ∷ ts) = if t.passes then verdict_of ts else Err t.fault

-- "17 (going on), 12", then the line's tests: by whether no line may follow, and by what tests it meets
unfoldable pub verdict_by : (full : Bool) → List Form → (Line → List Test) → (bytes : List ℕ) → Verdict
verdict_by full forms tests bytes =
    if full then Err Count else
    elim (line_of forms bytes) [
      | none ↦ Err Misprint
      | some line ↦ verdict_of (tests line)
    ]

-- the line that these bytes are taken for, as one of a kind's lines
abbrev pub taken_by : {L : Type 0} → List Form → (view : Line → L) → (bytes : List ℕ) → L
taken_by forms view bytes = view (line_in (given (parsed_of (line_of forms bytes))))

module _ {L : Type 0} (kind : Kind L) where
  unfoldable pub line_taken : (bytes : List ℕ) → L
  line_taken bytes = taken_by kind.forms kind.view bytes

  -- what becomes of a line after the lines `before` it
  abbrev pub line_verdict : (before : List L) → (bytes : List ℕ) → Verdict
  line_verdict before bytes = verdict_by (kind.full before) kind.forms (line_tests kind before) bytes

  -- the lines taken from the first lines of a text
  unfoldable pub lines_before : (text : List ℕ) → (i : ℕ) → List L
  lines_before text i = map line_taken (take i (lines_of text))

-- the bytes of the next line
abbrev pub line_bytes : (text : List ℕ) → (i : ℕ) → List ℕ
line_bytes text i = take 32 (drop (32 * i) text)
