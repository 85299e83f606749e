-- What a walk gives.
use Rattle.std.specs.Prelude.{◌≡◌, List, map, ℕ, ◌<◌}
use Rattle.definitions.specs.declared.Header.{Header}
use Rattle.definitions.specs.declared.Node.{Node}
use Rattle.definitions.specs.BookLines.{Reached}
use Rattle.definitions.specs.Lookup.{reached}
use Rattle.definitions.specs.Tables.{tree_node}
use Rattle.tables.specs.Records.{record_at}
use Rattle.trees.specs.declared.Walked.{Walked}

-- of what is reached: the node number of the leaf, with the number of questions met on the way
abbrev pub walked_of : Reached → Walked
walked_of r = record { leaf = r.leaf; questions = r.questions }

abbrev pub no_walk : Walked
no_walk = record { leaf = 0; questions = 0 }

-- from a root, over known records: a leaf of the book
pub record Walks (header : Header) (nodes : List Node) (classes context : List ℕ) (root : ℕ) (walked : Walked) : Type 0 where
  pub reaches : walked ≡ walked_of (reached (map tree_node nodes) classes context root)
  pub listed : walked.leaf < header.nodes
  pub ends : (record_at nodes walked.leaf).kind ≡ 1 → ⊥
