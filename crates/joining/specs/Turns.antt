-- Turns of a join by the definition, and what they start from.
use Rattle.std.specs.Prelude.{List, ℕ, ◌/◌, ◌≤◌, ◌<◌, T, leb, length}
use Rattle.definitions.specs.Lists.{every}
use Rattle.definitions.specs.Faults.{Outcome, answered, and_then}
use Rattle.definitions.specs.Arcs.{arc_size}
use Rattle.definitions.specs.Building.{most_arcs}
use Rattle.definitions.specs.NetworkText.{never_descending}
use Rattle.definitions.specs.Growing.{Grown, Machine, Room, grown_in, expand, turns_from}
use Rattle.definitions.specs.Joining.{Joined, Move, joining}
use Rattle.growing.specs.declared.Sizes.{Sizes}
use Rattle.marks.specs.Lexicon.{spelled, Lexicon}
use Rattle.marks.specs.Openings.{Opened}
use Rattle.joined.specs.States.{room_of, held, Underway}
use Rattle.joined.specs.declared.Join.{Join}
use Rattle.moves.specs.declared.Vocabulary.{Vocabulary}
use Rattle.joining.specs.declared.Network.{Network}
use Rattle.arcs.specs.Below.{Started}
use Rattle.arcs.specs.Whole.{all_arcs}

-- the join of arcs and words that fill lent words
abbrev pub join_machine : (arcs words : List ℕ) → Machine Joined Move
join_machine arcs words = joining (all_arcs arcs) (spelled words)

-- arcs of a network: not too many, in order, with phones to 64
pub record Followed (arcs : List ℕ) : Type 0 where
  pub few : length arcs / arc_size ≤ most_arcs
  pub ordered : T (never_descending (all_arcs arcs))
  pub phones : T (every (λ a. leb a.phone 64) (all_arcs arcs))

-- a network and words to join, and joined states under way
pub record Turnable (arcs starts words index : List ℕ) (sizes : Sizes) (states joined chains : List ℕ) : Type 0 where
  pub followed : Followed arcs
  pub started : Started arcs starts
  pub lexicon : Lexicon words
  pub opened : Opened (spelled words) index
  pub underway : Underway sizes states joined chains

-- and one of them to expand
pub record Expandable (arcs starts words index : List ℕ) (sizes : Sizes) (states joined chains : List ℕ) (place : ℕ)
    : Type 0 where
  pub turnable : Turnable arcs starts words index sizes states joined chains
  pub listed : place < sizes.table

-- its turn
abbrev pub expanded_at : (arcs words states joined : List ℕ) → Sizes → (place : ℕ) → Outcome (Grown Joined)
expanded_at arcs words states joined sizes place =
    expand (join_machine arcs words) (room_of states joined) place (held sizes states joined)

-- all turns that are left, of so many, and what has grown then
abbrev pub all_turns : Machine Joined Move → Room → (limit turns : ℕ) → Grown Joined → Outcome (Grown Joined)
all_turns m room limit turns net = and_then (turns_from m room limit turns net) (λ done. answered (grown_in done))

abbrev pub turned_all : (arcs words states joined : List ℕ) → Sizes → Outcome (Grown Joined)
turned_all arcs words states joined sizes =
    all_turns (join_machine arcs words) (room_of states joined) (room_of states joined).table 0 (held sizes states joined)

-- ---- the same of a join in the code

abbrev pub Turns : Network → Vocabulary → Join → Type 0
Turns network known join =
    Turnable network.arcs.now network.starts.now known.words.now known.index.now join.sizes join.states.now
    join.arcs.now join.chains.now

abbrev pub turned : Network → Vocabulary → Join → Outcome (Grown Joined)
turned network known join = turned_all network.arcs.now known.words.now join.states.now join.arcs.now join.sizes

abbrev pub Expands : Network → Vocabulary → Join → (place : ℕ) → Type 0
Expands network known join place =
    Expandable network.arcs.now network.starts.now known.words.now known.index.now join.sizes join.states.now
    join.arcs.now join.chains.now place

abbrev pub expanded : Network → Vocabulary → Join → (place : ℕ) → Outcome (Grown Joined)
expanded network known join place =
    expanded_at network.arcs.now known.words.now join.states.now join.arcs.now join.sizes place
