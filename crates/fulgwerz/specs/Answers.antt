-- The structs that the functions for C answer, by what is said: the fault and its line, and beside them what was
-- asked for, with 0 in its place after a refusal.
use Rattle.std.specs.Prelude.{◌≡◌, List, true, ℕ, T}
use Rattle.definitions.specs.declared.Header.{Header}
use Rattle.definitions.specs.declared.Counts.{Counts}
use Rattle.definitions.specs.Faults.{answered}
use Rattle.definitions.specs.BookLines.{BookLine}
use Rattle.definitions.specs.BookReading.{Lent, read_book}
use Rattle.definitions.specs.Arcs.{arcs_in}
use Rattle.definitions.specs.Paths.{final_last}
use Rattle.definitions.specs.Said.{Said, Progress, Span}
use Rattle.definitions.specs.WordBooks.{words_in}
use Rattle.definitions.specs.Demand.{Demand3}
use Rattle.definitions.specs.JoinedPaths.{JoinedPaths}
use Rattle.trees.specs.declared.Walked.{Walked}
use Rattle.transcripts.specs.declared.Tally.{Tally}
use Rattle.joining.specs.declared.JoinedCounts.{JoinedCounts}
use Rattle.fulgwerz.specs.declared.ReadAnswer.{ReadAnswer}
use Rattle.fulgwerz.specs.declared.LeafAnswer.{LeafAnswer}
use Rattle.fulgwerz.specs.declared.TranscriptAnswer.{TranscriptAnswer}
use Rattle.fulgwerz.specs.declared.CountAnswer.{CountAnswer}
use Rattle.fulgwerz.specs.declared.BuildAnswer.{BuildAnswer}
use Rattle.fulgwerz.specs.declared.JoinAnswer.{JoinAnswer}
use Rattle.fulgwerz.specs.declared.NetworkAnswer.{NetworkAnswer}
use Rattle.fulgwerz.specs.declared.PartAnswer.{PartAnswer}

-- the header of the lines that were read
abbrev pub read_answer : Said Header → ReadAnswer
read_answer s = record { fault = s.fault; line = s.line; header = s.values }

-- the node number of the leaf, and the questions met on the way
abbrev pub leaf_answer : Said Walked → LeafAnswer
leaf_answer s =
    record { fault = s.fault; line = s.line; leaf = s.values.leaf; questions = s.values.questions }

-- how many models there are, and how many questions were put
abbrev pub transcript_answer : Said Tally → TranscriptAnswer
transcript_answer s =
    record { fault = s.fault; line = s.line; count = s.values.models; questions = s.values.questions }

-- how many combinations, bytes or words there are
abbrev pub count_answer : Said ℕ → CountAnswer
count_answer s = record { fault = s.fault; line = s.line; count = s.values }

-- where the part begins in the lent arcs and how long it is, both in words
abbrev pub part_answer : Said Span → PartAnswer
part_answer s =
    record { fault = s.fault; line = s.line; start = s.values.start; length = s.values.length }

-- the counts of the W line
abbrev pub network_answer : Said Counts → NetworkAnswer
network_answer s = record { fault = s.fault; line = s.line; counts = s.values }

-- how many joined states and arcs there are
abbrev pub join_answer : Said JoinedCounts → JoinAnswer
join_answer s =
    record { fault = s.fault; line = s.line; states = s.values.states; arcs = s.values.arcs }

-- whether it is finished, the turns done, and the counts, with k
abbrev pub build_answer : Said Progress → BuildAnswer
build_answer s =
    record {
      fault = s.fault;
      line = s.line;
      finished = s.values.finished;
      turns = s.values.turns;
      counts = s.values.counts;
    }

-- Demand 3 of an answer and the words in the arc buffer: where the answer is finished, the text was accepted,
-- and the demand holds of its lines, the answer's counts and those words.
abbrev pub MeetsDemand3 : Lent → (text : List ℕ) → BuildAnswer → (arcs : List ℕ) → Type 0
MeetsDemand3 lent text answer arcs =
    answer.finished ≡ true
    → (lines : List BookLine) × (read_book lent text ≡ answered lines) × Demand3 lines answer.counts arcs

-- Beside it: where the answer is finished, no counted arc leaves FINAL.
abbrev pub KeepsFinalLast : BuildAnswer → (arcs : List ℕ) → Type 0
KeepsFinalLast answer arcs =
    answer.finished ≡ true → T (final_last (arcs_in answer.counts.arcs arcs))

-- The path statement of an answer and the words in the buffer of joined arcs: where there is no fault, for every book
-- of which demand 3 holds of the lent arcs, and if no arc leaves FINAL.
abbrev pub KeepsPaths : Counts → (arcs : List ℕ) → (count : ℕ) → (words : List ℕ) → JoinAnswer → (joined : List ℕ)
    → Type 0
KeepsPaths counts arcs count words answer joined =
    answer.fault ≡ 0 → (lines : List BookLine) → Demand3 lines counts arcs
    → T (final_last (arcs_in counts.arcs arcs)) → JoinedPaths lines (words_in count words) answer.arcs joined
