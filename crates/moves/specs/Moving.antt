-- Moves along an arc of the network, as the definition performs them, and what they start from.
use Rattle.std.specs.Prelude.{List, map, ℕ, suc, ◌-◌, ◌≤◌, length}
use Rattle.definitions.specs.Lists.{select, concat_map, up_from}
use Rattle.definitions.specs.Faults.{Outcome}
use Rattle.definitions.specs.Arcs.{Arc}
use Rattle.arcs.specs.Arc.{the_arc}
use Rattle.definitions.specs.Growing.{Grown, enter, perform_all}
use Rattle.definitions.specs.Joining.{Step, opening, Joined, Move, may_enter}
use Rattle.growing.specs.declared.Sizes.{Sizes}
use Rattle.marks.specs.Lexicon.{spelled, Lexicon}
use Rattle.marks.specs.Openings.{Opened}
use Rattle.joined.specs.States.{room_of, entering, held, Underway}
use Rattle.joined.specs.declared.Join.{Join}
use Rattle.moves.specs.declared.Hop.{Hop}
use Rattle.moves.specs.declared.Vocabulary.{Vocabulary}

-- an arc along which something moves; its source does not matter
abbrev pub hop_arc : Hop → Arc
hop_arc hop = the_arc hop.arc

-- several moves from a joined state, one after the other
abbrev pub moved_all : (states joined : List ℕ) → Sizes → (from : ℕ) → List Move → Outcome (Grown Joined)
moved_all states joined sizes from moves =
    perform_all entering (room_of states joined) (held sizes states joined) (map (enter from) moves)

-- those that may be entered
abbrev pub allowed : List Move → List Move
allowed moves = select (λ m. may_enter m.target) moves

-- the words from one on that begin with a phone
abbrev pub openings : (words : List (List ℕ)) → (phone word : ℕ) → List Step
openings words phone word = concat_map (opening words phone) (up_from word (suc (length words) - word))

-- words, their index, and joined states under way
pub record Followable (hop : Hop) (words index : List ℕ) (sizes : Sizes) (states joined chains : List ℕ)
    : Type 0 where
  pub lexicon : Lexicon words
  pub opened : Opened (spelled words) index
  pub underway : Underway sizes states joined chains
  pub phone : hop.arc.phone ≤ 64

-- and an arc with a phone
pub record Openable (hop : Hop) (words index : List ℕ) (sizes : Sizes) (states joined chains : List ℕ)
    : Type 0 where
  pub followable : Followable hop words index sizes states joined chains
  pub some : 1 ≤ hop.arc.phone

-- the same of a join in the code
abbrev pub moved : Join → (from : ℕ) → List Move → Outcome (Grown Joined)
moved join from moves = moved_all join.states.now join.arcs.now join.sizes from moves

abbrev pub Follows : Hop → Vocabulary → Join → Type 0
Follows hop known join =
    Followable hop known.words.now known.index.now join.sizes join.states.now join.arcs.now join.chains.now

abbrev pub Opens : Hop → Vocabulary → Join → Type 0
Opens hop known join =
    Openable hop known.words.now known.index.now join.sizes join.states.now join.arcs.now join.chains.now
