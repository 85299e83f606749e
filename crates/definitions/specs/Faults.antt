-- Document 01, "Fault numbers", with 21 and 51 of document 02: each fault's number, and how tests in a fixed order
-- give an answer or a refusal.
use Rattle.std.specs.Prelude.{if◌then◌else◌, List, [], ◌∷◌, Bool, ℕ}
use Rattle.definitions.specs.declared.Fault.{Fault}
use Rattle.definitions.specs.declared.Fault.TheVariants.{Ragged, Misprint, Range, Order, Backward}
use Rattle.definitions.specs.declared.Fault.TheVariants.{Orphan, Count}
use Rattle.definitions.specs.declared.Fault.TheVariants.{Foreign, Narrow, Chained, Long, Choices, Crowd}
use Rattle.definitions.specs.declared.Fault.TheVariants.{Tangle, Short}
use Rattle.definitions.specs.declared.Fault.TheVariants.{Utterance, State, Vocabulary}
use Rattle.definitions.specs.declared.Refusal.{Refusal}
use Rattle.definitions.specs.Lists.{cleared, padded}

-- the table of document 01, "Number 21 refuses a plain phone that is itself a boundary phone in the book", and "51,
-- with line 0, refuses more words than the lent table holds"
abbrev pub number_of : Fault → ℕ
number_of Ragged = 11
number_of Misprint = 12
number_of Range = 13
number_of Order = 14
number_of Backward = 15
number_of Orphan = 16
number_of Count = 17
number_of Foreign = 18
number_of Narrow = 20
number_of Chained = 21
number_of Long = 22
number_of Choices = 30
number_of Crowd = 31
number_of Tangle = 32
number_of Short = 33
number_of Utterance = 41
number_of State = 42
number_of Vocabulary = 51

-- what an entry gives: its answer, or a refusal with its fault and line
pub data Outcome (A : Type 0) : Type 0 where
  answered : A → Outcome A
  refused : Refusal → Outcome A

-- the number of its fault and the fault's line, both 0 where there is an answer
unfoldable pub fault_of : {A : Type 0} → Outcome A → ℕ
fault_of (answered a) = 0
fault_of (refused r) = number_of r.fault

unfoldable pub fault_line : {A : Type 0} → Outcome A → ℕ
fault_line (answered a) = 0
fault_line (refused r) = r.line

abbrev pub refuse : {A : Type 0} → Fault → ℕ → Outcome A
refuse fault line = refused (record { fault = fault; line = line })

-- a test, and the fault that is given unless it passes
pub record Test : Type 0 where
  pub fault : Fault
  pub passes : Bool

infix 68 ◌unless◌
abbrev pub ◌unless◌ : Fault → Bool → Test
fault unless passes = record { fault = fault; passes = passes }

-- the first test that fails refuses at the given line; when all pass, the answer stands
unfoldable pub judge : {A : Type 0} → (line : ℕ) → List Test → Outcome A → Outcome A
judge line [] answer = answer
judge line (t ∷ ts) answer = if t.passes then judge line ts answer else refuse t.fault line

-- an answer carried on to the next step, a refusal kept
unfoldable pub and_then : {A B : Type 0} → Outcome A → (A → Outcome B) → Outcome B
and_then (answered a) next = next a
and_then (refused r) next = refused r

-- what a lent buffer of `size` numbers holds then: "In every model or text buffer, what follows the answer
-- is 0", and after a refusal "every word of every output buffer 0"
unfoldable pub answer_left : (size : ℕ) → Outcome (List ℕ) → List ℕ
answer_left size (answered answer) = padded size answer
answer_left size (refused r) = cleared size
