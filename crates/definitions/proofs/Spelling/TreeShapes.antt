-- Laws about the tree below a node: what stands at the node is what the tree is, and where children are greater
-- nodes of the list, as many levels as there are nodes are enough. So the number of levels is no rule of its own.
use Rattle.std.specs.Prelude.{◌≡◌, List, ℕ, zero, suc, ◌+◌, ◌≤◌, ◌<◌, length}
use Rattle.std.proofs.Common.{sym, ap₂, ◌∙◌, arith}
use Rattle.definitions.specs.BookLines.{TreeNode, question, leaf, Asked}
use Rattle.definitions.specs.Lookup.{node_at}
use Rattle.definitions.specs.PlainForm.{Tree, asking, giving, question_of, tree_below, tree_at, size_of}
use Rattle.definitions.proofs.Laws.Trees.Walks.{Forward, by-node}

-- a tree has at least one node
pub some-node : (t : Tree) → 1 ≤ size_of t
unfolding size_of
some-node (asking asked on_yes on_no) = omega arith
some-node (giving model) = omega arith

module _ (nodes : List TreeNode) (classes : List ℕ) where
  -- one level
  pub below-asks : (levels node : ℕ) (asked : Asked) (yes_node no_node : ℕ)
      → node_at nodes node ≡ question asked yes_node no_node
      → tree_below (suc levels) nodes classes node
      ≡ asking (question_of classes asked) (tree_below levels nodes classes yes_node)
      (tree_below levels nodes classes no_node)
  unfolding tree_below
  below-asks levels node asked yes_node no_node e = rw (e, tree_below)

  pub below-gives : (levels node model : ℕ) → node_at nodes node ≡ leaf model
      → tree_below (suc levels) nodes classes node ≡ giving model
  unfolding tree_below
  below-gives levels node model e = rw (e, tree_below)

  module _ (forward : Forward nodes) where
    -- enough levels give the same tree
    pub enough-levels : (more levels node : ℕ) → node < length nodes → length nodes ≤ node + more
        → length nodes ≤ node + levels
        → tree_below more nodes classes node ≡ tree_below levels nodes classes node
    enough-levels zero levels node h k l = absurd (omega arith)
    enough-levels (suc more) zero node h k l = absurd (omega arith)
    enough-levels (suc more) (suc levels) node h k l =
        by-node nodes node (λ model e. below-gives more node model e ∙ sym (below-gives levels node model e))
        (λ asked yes_node no_node e.
        let (yes_later, no_later) = forward node asked yes_node no_node e in
        below-asks more node asked yes_node no_node e
        ∙ ap₂ (asking (question_of classes asked))
        (enough-levels more levels yes_node yes_later.listed (omega (arith, yes_later.greater))
        (omega (arith, yes_later.greater)))
        (enough-levels more levels no_node no_later.listed (omega (arith, no_later.greater))
        (omega (arith, no_later.greater)))
        ∙ sym (below-asks levels node asked yes_node no_node e))

    -- so the tree at a node is of the trees at its children
    pub tree-asks : (node : ℕ) (asked : Asked) (yes_node no_node : ℕ) → node < length nodes
        → node_at nodes node ≡ question asked yes_node no_node
        → tree_at nodes classes node
        ≡ asking (question_of classes asked) (tree_at nodes classes yes_node) (tree_at nodes classes no_node)
    tree-asks node asked yes_node no_node h e =
        let n : ℕ = length nodes in
        enough-levels n (suc n) node h (omega arith) (omega arith)
        ∙ below-asks n node asked yes_node no_node e

    pub tree-gives : (node model : ℕ) → node < length nodes → node_at nodes node ≡ leaf model
        → tree_at nodes classes node ≡ giving model
    tree-gives node model h e =
        let n : ℕ = length nodes in
        enough-levels n (suc n) node h (omega arith) (omega arith) ∙ below-gives n node model e
