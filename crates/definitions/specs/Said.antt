-- Document 01, "Fault numbers": what an answer says in numbers, by its outcome. "A refusal returns its number and
-- line (0 where no line is meant), counts of 0". "Where an answer is an enum", a definition beside it "gives this
-- paper's number and values for each of its cases"; the structs for C hold them.
use Rattle.std.specs.Prelude.{Bool, true, false, ℕ, ◌*◌, Result, Ok, Err}
use Rattle.definitions.specs.declared.Counts.{Counts}
use Rattle.definitions.specs.declared.Refusal.{Refusal}
use Rattle.definitions.specs.Faults.{Outcome, answered, refused, number_of}
use Rattle.definitions.specs.BookLines.{header_of}
use Rattle.definitions.specs.Arcs.{arc_size}
use Rattle.definitions.specs.Growing.{finished, stopped}
use Rattle.definitions.specs.Connecting.{Built}
use Rattle.definitions.specs.Building.{counts_in}
use Rattle.definitions.specs.BookBuilding.{BookBuilt}
use Rattle.definitions.specs.Leaving.{Part}
use Rattle.definitions.specs.NetworkText.{no_counts}

-- the fault's number and line, both 0 where there is an answer, and the answer's values
pub record Said (A : Type 0) : Type 0 where
  pub fault : ℕ
  pub line : ℕ
  pub values : A

abbrev pub answer_said : {A : Type 0} → (values : A) → Said A
answer_said values = record { fault = 0; line = 0; values = values }

-- with values of 0
abbrev pub refusal_said : {A : Type 0} → (nothing : A) → Refusal → Said A
refusal_said nothing r = record { fault = number_of r.fault; line = r.line; values = nothing }

unfoldable pub said_of : {A B : Type 0} → (says : A → B) → (nothing : B) → Outcome A → Said B
said_of says nothing (answered a) = answer_said (says a)
said_of says nothing (refused r) = refusal_said nothing r

-- an answer as the code gives it: what is said of it, or the refusal
unfoldable pub result_of : {A B : Type 0} → (says : A → B) → Outcome A → Result B Refusal
result_of says (answered a) = Ok (says a)
result_of says (refused r) = Err r

-- and in numbers
abbrev pub result_said : {A B : Type 0} → (values : A → B) → (nothing : B) → Result A Refusal → Said B
result_said values nothing (Ok a) = answer_said (values a)
result_said values nothing (Err r) = refusal_said nothing r

-- ---- the values of a build and of a part; those of the other answers are a header, counts or one number

-- "The build answers finished, or stopped ..", "with the turns done and the counts of metastates and arcs", with k
pub record Progress : Type 0 where
  pub finished : Bool
  pub turns : ℕ
  pub counts : Counts

unfoldable pub progress_of : (states : ℕ) → Built → Progress
progress_of states (finished turns net) = record { finished = true; turns = turns; counts = counts_in states net }
progress_of states (stopped turns net) = record { finished = false; turns = turns; counts = counts_in states net }

abbrev pub no_progress : Progress
no_progress = record { finished = false; turns = 0; counts = no_counts }

-- of the build from a book's text
abbrev pub book_progress : BookBuilt → Progress
book_progress b = progress_of (header_of b.lines).states b.built

-- where a part begins in the lent arcs and how long it is, both in words
pub record Span : Type 0 where
  pub start : ℕ
  pub length : ℕ

abbrev pub span_of : Part → Span
span_of part = record { start = arc_size * part.start; length = arc_size * part.count }

abbrev pub no_span : Span
no_span = record { start = 0; length = 0 }
