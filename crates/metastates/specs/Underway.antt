-- What entering starts from: nodes and combinations that can be connected, and a network under construction in
-- lent words.
use Rattle.std.specs.Prelude.{List, ℕ, ◌<◌, length}
use Rattle.definitions.specs.Building.{most_metastates}
use Rattle.definitions.specs.declared.Header.{Header}
use Rattle.matrix.specs.Shapes.{width_of, HasWidth}
use Rattle.index.specs.declared.Follower.{Follower}
use Rattle.index.specs.Combinations.{combinations_in, Connectable}
use Rattle.growing.specs.declared.Sizes.{Sizes}
use Rattle.metastates.specs.Networks.{network_held, Holds}

-- a combination, and a place for a metastate of it
pub record Placed (header : Header) (nodes words : List ℕ) (number place : ℕ) : Type 0 where
  pub connectable : Connectable header nodes words
  pub listed : number < length (combinations_in header words)
  pub few : place < most_metastates

-- lent words that hold so many metastates and arcs of a network, and nothing else
abbrev pub Underway : Header → (words : List ℕ) → Sizes → (metastates arcs chains : List ℕ) → Type 0
Underway header words sizes metastates arcs chains =
    Holds header.half (length (combinations_in header words))
    (network_held header.half sizes metastates arcs) metastates arcs chains

-- a metastate to enter into such words
pub record Entering (header : Header) (nodes words metastates arcs chains : List ℕ) (sizes : Sizes)
    (follower : Follower) : Type 0 where
  pub connectable : Connectable header nodes words
  pub underway : Underway header words sizes metastates arcs chains
  pub listed : follower.number < length (combinations_in header words)
  pub shaped : HasWidth (width_of header.half) follower.met.columns
