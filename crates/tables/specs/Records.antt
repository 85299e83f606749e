-- The records of a list, and what a function that gives the record of a node has to answer.
use Rattle.std.specs.Prelude.{◌≡◌, List, [], ℕ, ◌<◌, length, get_or}
use Rattle.definitions.specs.declared.Node.{Node}
use Rattle.definitions.specs.Tables.{node_of}

-- the record at a place of a list, one of zeros beyond it
abbrev pub record_at : List Node → ℕ → Node
record_at nodes at = get_or nodes at (node_of [])

-- there are so many records, and for each of these nodes its own is answered
pub record Gives (answers : ℕ → Node → Type 0) (count : ℕ) (nodes : List Node) : Type 0 where
  pub counted : length nodes ≡ count
  pub own : (node : ℕ) → node < count → (r : Node) → answers node r → r ≡ record_at nodes node
