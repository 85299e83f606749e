-- The trees in lent words: at a node of known records, and at roots among them, where there are any.
use Rattle.std.specs.Prelude.{List, map, ◌||◌, ℕ, ◌<◌, T, ltb, eqb}
use Rattle.std.proofs.Math.Option.{Option}
use Rattle.definitions.specs.declared.Header.{Header}
use Rattle.definitions.specs.Lists.{every, concat_map}
use Rattle.definitions.specs.BookLines.{no_root}
use Rattle.definitions.specs.Tables.{node_records}
use Rattle.definitions.specs.ForeignTables.{nodes_known}
use Rattle.definitions.specs.PlainForm.{Tree, tree_at, tree_for, sets_in, trees_there}
use Rattle.tables.specs.Usable.{tree_nodes}

-- the tree at a node, and those at roots, by the sets of these classes
abbrev pub tree_in : Header → (nodes classes : List ℕ) → (node : ℕ) → Tree
tree_in header nodes classes node = tree_at (tree_nodes header nodes) classes node

abbrev pub trees_in : Header → (nodes classes roots : List ℕ) → List (Option Tree)
trees_in header nodes classes roots = map (tree_for (tree_nodes header nodes) classes) roots

-- those that are there, and the sets that they ask for
abbrev pub there_in : Header → (nodes classes roots : List ℕ) → List Tree
there_in header nodes classes roots = trees_there (trees_in header nodes classes roots)

abbrev pub uses_in : Header → (nodes classes roots : List ℕ) → List ℕ
uses_in header nodes classes roots = concat_map sets_in (there_in header nodes classes roots)

-- roots among the nodes, some of which may be left out
pub record Listed (header : Header) (roots : List ℕ) : Type 0 where
  pub each : T (every (λ root. eqb root no_root || ltb root header.nodes) roots)

-- known records, and a node among them
pub record KnownNode (header : Header) (nodes : List ℕ) (node : ℕ) : Type 0 where
  pub known : T (nodes_known header 0 (node_records header nodes))
  pub listed : node < header.nodes
