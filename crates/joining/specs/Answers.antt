-- What joining answers, in the documents' numbers, and what it promises.
use Rattle.std.specs.Prelude.{◌≡◌, List, ℕ, T, length, Result, Ok}
use Rattle.definitions.specs.declared.Counts.{Counts}
use Rattle.definitions.specs.declared.Refusal.{Refusal}
use Rattle.definitions.specs.Faults.{answered}
use Rattle.definitions.specs.BookLines.{BookLine}
use Rattle.definitions.specs.Arcs.{arcs_in}
use Rattle.definitions.specs.Paths.{final_last}
use Rattle.definitions.specs.WordBooks.{words_in}
use Rattle.definitions.specs.Growing.{Grown}
use Rattle.definitions.specs.Joining.{Joined, JoinSpace, join, join_left}
use Rattle.definitions.specs.Demand.{Demand3}
use Rattle.definitions.specs.JoinedPaths.{JoinedPaths}
use Rattle.joining.specs.declared.JoinedCounts.{JoinedCounts}

-- the lent space
abbrev pub space_of : (states joined : List ℕ) → JoinSpace
space_of states joined = record { states = length states; arcs = length joined }

-- the answer's numbers
abbrev pub counts_of : Grown Joined → JoinedCounts
counts_of net = record { states = length net.table; arcs = length net.arcs }

abbrev pub no_counts : JoinedCounts
no_counts = record { states = 0; arcs = 0 }

-- the space after joining into it: as long as it was, and holding the join where there is an answer
pub record JoinHeld (counts : Counts) (arcs : List ℕ) (count : ℕ) (words states joined states' joined' : List ℕ)
    : Type 0 where
  pub states_sized : length states' ≡ length states
  pub joined_sized : length joined' ≡ length joined
  pub holds : (net : Grown Joined) → join counts arcs count words (space_of states joined) ≡ answered net
      → (states' ≡ (join_left (space_of states joined) (answered net)).states)
      × (joined' ≡ (join_left (space_of states joined) (answered net)).arcs)

-- the path statement of document 02, of the words that the join leaves, where it answers: for every book of which
-- demand 3 holds of the lent arcs, and if no arc leaves FINAL
abbrev pub KeepsPaths : Counts → (arcs : List ℕ) → (count : ℕ) → (words : List ℕ) → (answer : Result JoinedCounts Refusal)
    → (joined : List ℕ) → Type 0
KeepsPaths counts arcs count words answer joined =
    (lines : List BookLine) (counted : JoinedCounts) → answer ≡ Ok counted
    → Demand3 lines counts arcs → T (final_last (arcs_in counts.arcs arcs))
    → JoinedPaths lines (words_in count words) counted.arcs joined
