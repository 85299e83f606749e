-- What a step of a build leaves and answers, by what the definition performs.
use Rattle.definitions.specs.declared.Fault.{Fault}
use Rattle.growing.specs.declared.Sizes.{Sizes}
use Rattle.std.specs.Prelude.{◌≡◌, List, [], ◌∷◌, ◌++◌, ℕ, ◌+◌, ◌*◌, length, take, drop, Result}
use Rattle.definitions.specs.declared.Header.{Header}
use Rattle.definitions.specs.Faults.{Outcome, answered}
use Rattle.definitions.specs.Arcs.{Arc}
use Rattle.definitions.specs.Metastates.{metastate_size}
use Rattle.definitions.specs.Connecting.{arc_into, Network}
use Rattle.index.specs.declared.Follower.{Follower}
use Rattle.index.specs.Combinations.{combinations_in, rules_in}
use Rattle.growing.specs.Chains.{heads_in, linked_to}
use Rattle.growing.specs.Steps as growing
use Rattle.metastates.specs.Keys.{key_of}
use Rattle.metastates.specs.Networks.{metastate_code, room_of, NumbersBelow}

-- the words before, the outcome, the answer, and the words after; where it answers, its metastates have numbers of
-- combinations
pub record StepLeft (header : Header) (words metastates arcs chains : List ℕ) (outcome : Outcome Network)
    (answer : Result Sizes Fault) (metastates' arcs' chains' : List ℕ) : Type 0 where
  pub step : growing.StepLeft (metastate_code header.half) (room_of header.half metastates arcs)
      metastates arcs chains outcome answer metastates' arcs' chains'
  pub numbers : (net : Network) → outcome ≡ answered net
      → NumbersBelow (length (combinations_in header words)) net.table

-- the arc from a state into a metastate of a combination, at a place; the matrix does not matter
abbrev pub into_arc : Header → (nodes words : List ℕ) → (from number place : ℕ) → Arc
into_arc header nodes words from number place =
    arc_into (rules_in header nodes words) from place
    (record { number = number; carried = [] })

-- after a metastate was put at a place of the table and at the front of its chain
pub record MetastateAdded (half : ℕ) (x : Follower) (place : ℕ) (metastates chains metastates' chains' : List ℕ)
    : Type 0 where
  pub put : metastates'
      ≡ take (metastate_size half * place) metastates
      ++ take (metastate_size half) (x.number ∷ x.met.columns)
      ++ drop (metastate_size half * place + metastate_size half) metastates
  pub linked : chains' ≡ linked_to (heads_in chains) chains place (key_of (x.number ∷ x.met.columns))
