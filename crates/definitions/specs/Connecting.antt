-- Document 01, "Connecting": the network, built by turns from the combinations of a book. Rules say which
-- metastates start, follow and end, and what their arcs carry; the network is grown by them (Growing.antt), and
-- a book with its combinations gives the rules.
use Rattle.std.specs.Prelude.{if◌then◌else◌, List, [], ◌∷◌, ◌++◌, map, Bool, ℕ, suc, drop}
use Rattle.definitions.specs.Growing.{Grown, Event, plain, enter, Machine, Room, Done, grow}
use Rattle.definitions.specs.Faults.{Outcome, Test}
use Rattle.definitions.specs.Lists.{◌!◌, place_of}
use Rattle.definitions.specs.Tables.{Book}
use Rattle.definitions.specs.Combinations.{Combination}
use Rattle.definitions.specs.Arcs.{Arc, arc, INITIAL, FINAL, first_state, last_state}
use Rattle.definitions.specs.Metastates.{Metastate, same_metastate, phone_of, models_of, starts, followers}
use Rattle.definitions.specs.Metastates.{may_end}

-- what a network is connected by
pub record Rules : Type 0 where
  -- of each metastate, k
  pub states : ℕ
  pub starts : List Metastate
  pub followers : Metastate → List Metastate
  pub ending : Metastate → Bool
  pub models : Metastate → List ℕ
  pub phone : Metastate → ℕ
  -- what of a metastate that starts or follows is stored, and what is judged of it before 31 and 32
  pub kept : Metastate → Metastate
  pub tests : Metastate → List Test

-- document 01's: all of a metastate is stored, and nothing is judged of it
abbrev pub rules_of : Book → List Combination → Rules
rules_of book combinations =
    record {
      states = book.states;
      starts = starts book combinations;
      followers = followers book combinations;
      ending = may_end book combinations;
      models = models_of book combinations;
      phone = phone_of combinations;
      kept = λ x. x;
      tests = λ x. [];
    }

-- "arcs between its own states, with the target's model and phone 0", from a state through states with
-- these models
unfoldable pub own_arcs : (state : ℕ) → (models : List ℕ) → List Arc
own_arcs state [] = []
own_arcs state (model ∷ models) = arc state (suc state) model 0 ∷ own_arcs (suc state) models

module _ (rules : Rules) where
  -- "the arc from its last state to 1 with 0, 0", where the metastate may end
  unfoldable pub final_arcs : (place : ℕ) → Metastate → List Arc
  final_arcs place q = if rules.ending q then arc (last_state rules.states place) FINAL 0 0 ∷ [] else []

  -- "First come the arcs from 0 to each start metastate's first state"
  unfoldable pub start_events : List (Event Metastate)
  start_events = map (enter INITIAL) rules.starts

  -- "each turn takes the oldest unexpanded metastate q and appends": its own arcs, the arc to FINAL, the
  -- arcs to followers
  unfoldable pub turn_events : (place : ℕ) → Metastate → List (Event Metastate)
  turn_events place q =
      map plain (own_arcs (first_state rules.states place) (drop 1 (rules.models q)))
      ++ map plain (final_arcs place q)
      ++ map (enter (last_state rules.states place)) (rules.followers q)

  -- the arc to a metastate's first state, "with its first model and its phone"
  unfoldable pub arc_into : (from place : ℕ) → Metastate → Arc
  arc_into from place x = arc from (first_state rules.states place) (rules.models x ! 0) (rules.phone x)

-- a network as far as it is built
abbrev pub Network : Type 0
Network = Grown Metastate

-- "The build answers finished, or stopped when that many turns are done and a metastate is still unexpanded,
-- with the turns done and the counts of metastates and arcs."
abbrev pub Built : Type 0
Built = Done Metastate

abbrev pub no_metastate : Metastate
no_metastate = record { number = 0; carried = [] }

abbrev pub no_network : Network
no_network = record { table = []; arcs = [] }

-- a metastate "is new if number and matrix have not occurred"
abbrev pub connecting : Rules → Machine Metastate Metastate
connecting rules =
    record {
      same = same_metastate;
      nothing = no_metastate;
      stored = rules.kept;
      tests = rules.tests;
      arc_into = λ from place x. arc_into rules from place (rules.kept x);
      first = [];
      start_events = start_events rules;
      turn_events = turn_events rules;
    }

abbrev pub machine_of : Book → List Combination → Machine Metastate Metastate
machine_of book combinations = connecting (rules_of book combinations)

-- "First come the arcs from 0 ..", "Then each turn takes the oldest unexpanded metastate"
abbrev pub connect : Rules → Room → (limit : ℕ) → Outcome Built
connect rules room limit = grow (connecting rules) room limit

-- the arc from a state to a metastate that starts or follows, where the table is this one
abbrev pub arc_to : Rules → (table : List Metastate) → (from : ℕ) → Metastate → Arc
arc_to rules table from x =
    arc_into rules from (place_of same_metastate table (rules.kept x)) (rules.kept x)
