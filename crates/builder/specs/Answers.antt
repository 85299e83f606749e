-- What reading a book and building its network answers; and of what it leaves demand 3, and that nothing leaves
-- FINAL.
use Rattle.std.specs.Prelude.{◌≡◌, List, ℕ, T, Result, Ok}
use Rattle.definitions.specs.declared.Refusal.{Refusal}
use Rattle.definitions.specs.Faults.{Outcome, answered}
use Rattle.definitions.specs.BookLines.{BookLine, header_of}
use Rattle.definitions.specs.BookReading.{Lent, read_book}
use Rattle.definitions.specs.BookBuilding.{BookBuilt}
use Rattle.definitions.specs.Arcs.{arcs_in}
use Rattle.definitions.specs.Paths.{final_last}
use Rattle.definitions.specs.Demand.{Demand3}
use Rattle.network.specs.declared.Totals.{Totals}
use Rattle.network.specs.declared.Build.{Build}
use Rattle.network.specs.declared.Build.TheVariants as build
use Rattle.definitions.specs.Said.{result_of}
use Rattle.network.specs.Answers.{build_of}

-- the refusal of reading or building, or how far the build came
abbrev pub book_answer : Outcome BookBuilt → Result Build Refusal
book_answer = result_of (λ b. build_of (header_of b.lines).states b.built)

-- a claim about the totals of a finished answer
abbrev pub WhereFinished : Result Build Refusal → (claim : Totals → Type 0) → Type 0
WhereFinished answer claim = (totals : Totals) → answer ≡ Ok (build.Finished totals) → claim totals

-- Demand 3 of an answer and the words in the arc buffer: where the answer is finished, the text was accepted,
-- and the demand holds of its lines, the answer's counts and those words.
abbrev pub MeetsDemand3 : Lent → (text : List ℕ) → Result Build Refusal → (arcs : List ℕ) → Type 0
MeetsDemand3 lent text answer arcs =
    WhereFinished answer λ totals.
    (lines : List BookLine) × (read_book lent text ≡ answered lines) × Demand3 lines totals.counts arcs

-- Beside it: where the answer is finished, no counted arc leaves FINAL. Demand 3 does not say it, and whoever
-- follows the paths further, into another network, needs it.
abbrev pub KeepsFinalLast : Result Build Refusal → (arcs : List ℕ) → Type 0
KeepsFinalLast answer arcs =
    WhereFinished answer λ totals. T (final_last (arcs_in totals.counts.arcs arcs))
