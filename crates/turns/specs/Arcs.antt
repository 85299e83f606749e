-- Up to three arcs as words, and the arcs that a turn adds before those to followers.
use Rattle.std.specs.Prelude.{if◌then◌else◌, ◌≡◌, List, ◌++◌, ℕ, ◌<◌, ◌+◌, ◌*◌, leb, length, take, drop, Result, Ok, Err}
use Rattle.definitions.specs.declared.Header.{Header}
use Rattle.definitions.specs.declared.Fault.{Fault}
use Rattle.definitions.specs.declared.Fault.TheVariants.{Tangle}
use Rattle.definitions.specs.Connecting.{own_arcs, final_arcs}
use Rattle.definitions.specs.Lists.{concat_map}
use Rattle.definitions.specs.Arcs.{Arc, arc_size, arc_words, first_state}
use Rattle.definitions.specs.Metastates.{Metastate, models_of}
use Rattle.index.specs.Combinations.{combinations_in, nodes_book, rules_in}
use Rattle.growing.specs.declared.Sizes.{Sizes}
use Rattle.growing.specs.Steps.{arc_room}
use Rattle.turns.specs.declared.Arcs.{Arcs}

-- up to three arcs as words
pub record AreArcs (new : Arcs) (arcs : List Arc) : Type 0 where
  pub counted : new.count ≡ length arcs
  pub worded : take (arc_size * new.count) new.words ≡ concat_map arc_words arcs

-- at most two of them, and the states of one more
pub record Addable (new : Arcs) (from to : ℕ) : Type 0 where
  pub few : new.count < 3
  pub from_word : from < 4294967296
  pub to_word : to < 4294967296

-- whether new arcs have room after those that have grown, the answer, and the words after
pub record ArcsAdded (sizes : Sizes) (new : Arcs) (arcs : List ℕ) (answer : Result Sizes Fault) (arcs' : List ℕ)
    : Type 0 where
  pub answers : answer
      ≡ (if leb (sizes.arcs + new.count) (arc_room arcs)
      then Ok (record { table = sizes.table; arcs = sizes.arcs + new.count })
      else Err Tangle)
  pub words : arcs'
      ≡ (if leb (sizes.arcs + new.count) (arc_room arcs)
      then take (arc_size * sizes.arcs) arcs ++ take (arc_size * new.count) new.words
      ++ drop (arc_size * sizes.arcs + arc_size * new.count) arcs
      else arcs)

-- the arcs between a metastate's own states
abbrev pub own_of : Header → (nodes words : List ℕ) → (place : ℕ) → Metastate → List Arc
own_of header nodes words place x =
    own_arcs (first_state header.states place)
    (drop 1 (models_of (nodes_book header nodes) (combinations_in header words) x))

-- these, and the arc to FINAL where the metastate may end: what a turn adds before the arcs to followers
abbrev pub plain_of : Header → (nodes words : List ℕ) → (place : ℕ) → Metastate → List Arc
plain_of header nodes words place x =
    own_of header nodes words place x
    ++ final_arcs (rules_in header nodes words) place x
