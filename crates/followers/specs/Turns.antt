-- What following starts from: combinations that can be connected, with an index, and a network between two turns, with
-- spans; and what it leaves.
use Rattle.definitions.specs.declared.Fault.{Fault}
use Rattle.std.specs.Prelude.{◌≡◌, List, ℕ, ◌≤◌, ◌<◌, length, get_or, Result}
use Rattle.definitions.specs.declared.Header.{Header}
use Rattle.definitions.specs.Matrices.{shift}
use Rattle.definitions.specs.Connecting.{no_metastate, Network}
use Rattle.definitions.specs.Faults.{Outcome, answered}
use Rattle.matrix.specs.Shapes.{width_of, matrix_in, HasWidth}
use Rattle.index.specs.Combinations.{combinations_in, nodes_book, Connectable}
use Rattle.index.specs.Indexing.{Indexed}
use Rattle.growing.specs.declared.Sizes.{Sizes}
use Rattle.metastates.specs.Networks.{network_held}
use Rattle.metastates.specs.Underway.{Underway}
use Rattle.metastates.specs.Steps.{StepLeft}
use Rattle.followers.specs.Spans.{span_size, Spanned}

-- nodes and combinations that can be connected, and an index of them
pub record Searchable (header : Header) (nodes words index : List ℕ) : Type 0 where
  pub connectable : Connectable header nodes words
  pub indexed : Indexed header words index

-- the followers of a shifted matrix to enter
pub record Following (header : Header) (nodes words index metastates arcs chains : List ℕ) (sizes : Sizes)
    (columns : List ℕ) : Type 0 where
  pub searchable : Searchable header nodes words index
  pub underway : Underway header words sizes metastates arcs chains
  pub shaped : HasWidth (width_of header.half) columns

-- a network between two turns, with spans of it
pub record BetweenTurns (header : Header) (nodes words index metastates arcs chains spans : List ℕ)
    (sizes : Sizes) : Type 0 where
  pub searchable : Searchable header nodes words index
  pub underway : Underway header words sizes metastates arcs chains
  pub slots : span_size ≤ length spans
  pub spanned : Spanned (nodes_book header nodes) (combinations_in header words)
      (network_held header.half sizes metastates arcs) spans

-- the metastate at a place, whose turn it is
pub record Expandable (header : Header) (nodes words index metastates arcs chains spans : List ℕ)
    (sizes : Sizes) (place : ℕ) : Type 0 where
  pub between : BetweenTurns header nodes words index metastates arcs chains spans sizes
  pub listed : place < sizes.table

-- and its shifted matrix, to go on to its followers
pub record Onward (header : Header) (nodes words index metastates arcs chains spans : List ℕ) (sizes : Sizes)
    (place : ℕ) (columns : List ℕ) : Type 0 where
  pub expandable : Expandable header nodes words index metastates arcs chains spans sizes place
  pub shaped : HasWidth (width_of header.half) columns
  pub shifted : matrix_in header.half columns
      ≡ shift header.phones
      (get_or (network_held header.half sizes metastates arcs).table place no_metastate).carried

-- what a step leaves of all its buffers and of spans: where the step answers, they are spans of its network
pub record TurnLeft (header : Header) (nodes words metastates arcs chains spans : List ℕ)
    (outcome : Outcome Network) (answer : Result Sizes Fault) (metastates' arcs' chains' spans' : List ℕ) : Type 0 where
  pub left : StepLeft header words metastates arcs chains outcome answer metastates' arcs' chains'
  pub spans_sized : length spans' ≡ length spans
  pub spanned : (net : Network) → outcome ≡ answered net
      → Spanned (nodes_book header nodes) (combinations_in header words) net spans'
