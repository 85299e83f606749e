-- What becomes of one line, and what is judged after the last, by the state of the code.
use Rattle.std.specs.Prelude.{if◌then◌else◌, ◌≡◌, List, map, Bool, false, ℕ, ◌+◌, ltb, take, Result, Ok, Err}
use Rattle.definitions.specs.declared.Fault.{Fault}
use Rattle.definitions.specs.declared.Header.{Header}
use Rattle.definitions.specs.declared.Refusal.{Refusal}
use Rattle.definitions.specs.declared.Fault.TheVariants.{Orphan, Count, Chained}
use Rattle.definitions.specs.Lists.{at_least_one}
use Rattle.definitions.specs.Lines.{lines_of}
use Rattle.definitions.specs.Forms.{book_forms}
use Rattle.definitions.specs.PhoneSets.{has}
use Rattle.definitions.specs.BookLines.{BookLine, R, book_line, boundary_in}
use Rattle.definitions.specs.BookReading.{Lent, is_line_of, line_where}
use Rattle.lines.specs.Judging.{Verdict, verdict_by, taken_by}
use Rattle.tables.specs.Naming.{first_misnamed}
use Rattle.booklines.specs.declared.State.{State}
use Rattle.booklines.specs.States.{tests_in, full_in, enough_in, chained_in, next_state}
use Rattle.booklines.specs.declared.Entry.{Entry}
use Rattle.booklines.specs.Entries.{entry_line}

-- the line that these bytes are taken for: `line_taken` of a book, the same for all lent tables
abbrev pub book_taken : (bytes : List ℕ) → BookLine
book_taken bytes = taken_by book_forms book_line bytes

-- 17 (going on), 12, then the line's tests, by the state
abbrev pub verdict_in : Lent → State → (bytes : List ℕ) → Verdict
verdict_in lent s bytes =
    verdict_by (full_in s) book_forms (λ line. tests_in lent s line (book_line line)) bytes

-- the state after a line, or its fault
abbrev pub Step : Type 0
Step = Result State Fault

unfoldable pub step_after : Verdict → State → BookLine → Step
step_after (Ok done) s line = Ok (next_state s line)
step_after (Err fault) s line = Err fault

-- what taking a line gives
unfoldable pub step_of : Lent → State → (bytes : List ℕ) → Step
step_of lent s bytes = step_after (verdict_in lent s bytes) s (book_taken bytes)

-- a table that a line changes only if it is taken
unfoldable pub where_taken : Step → (before after : List ℕ) → List ℕ
where_taken (Ok s) before after = after
where_taken (Err fault) before after = before

-- whether a line is a B line whose plain phone is in a set
unfoldable pub names_plain_in : (set : ℕ) → BookLine → Bool
names_plain_in set line = at_least_one (λ b. has b.plain set) (boundary_in line)

-- the number of the first line in a text that passes a test
abbrev pub line_number_of : (text : List ℕ) → (test : BookLine → Bool) → ℕ
line_number_of text test = line_where test 1 (map book_taken (lines_of text))

-- a closure that answers what a test does; a misprinted line, which is taken for an R line of no numbers, fails it
pub record Seeks (post : Entry → Bool → Type 0) (test : BookLine → Bool) : Type 0 where
  pub answers : (entry : Entry) → (answer : Bool) → post entry answer → answer ≡ test (entry_line entry)
  pub misprint : test (R 0 0 0) ≡ false

-- after the last line: 17 (ending early), then 21 at the lowest such B line, then 16 at the lowest such node's line
unfoldable pub finish_of : (text : List ℕ) → State → (counts : List ℕ) → Result Header Refusal
finish_of text s counts =
    let node : ℕ = first_misnamed (take s.nodes counts) in
    if enough_in s then
    (if chained_in s
    then Err (record { fault = Chained; line = line_number_of text (names_plain_in s.boundaries) }) else
    if ltb node s.nodes then Err (record { fault = Orphan; line = line_number_of text (is_line_of node) }) else
    Ok s.header)
    else Err (record { fault = Count; line = s.lines + 1 })
