-- The trees of a book whose nodes are each named once have as many nodes as the book.
-- The idea: the sum of the sizes at all nodes is one for each node and the sizes at all children; and each node
-- is named once, so it is the sum at all children and all roots too. What the roots add is then the number of
-- nodes, and no node has to be told from another. The plain form fits the book's tables by it, and the code its
-- arrays.
use Rattle.std.specs.Prelude.{◌≡◌, refl, List, [], ◌∷◌, ◌++◌, map, ℕ, suc, ◌+◌, ◌≤◌, ◌<◌, length}
use Rattle.std.proofs.Common.{ap, ◌∙◌, ⊎_elim, arith}
use Rattle.definitions.specs.Lists.{concat_map, up_from, occurrences, sum_of, IsIn}
use Rattle.definitions.specs.BookLines.{TreeNode, children_of, no_root}
use Rattle.definitions.specs.BookReading.{orphans}
use Rattle.definitions.specs.Lookup.{node_at}
use Rattle.definitions.specs.PlainForm.{tree_at, tree_for, size_of, trees_there}
use Rattle.definitions.proofs.Laws.Lists.Members.{of-append, of-up_from}
use Rattle.definitions.proofs.Laws.Trees.Walks.{Forward, by-node}
use Rattle.definitions.proofs.Laws.Books.NamedOnce.{named-once, child-listed}
use Rattle.definitions.proofs.Laws.Lists.Occurrences.{occurrences-append}
use Rattle.definitions.proofs.Laws.Lists.Sums.{sum-append, sum-map, sum-once}
use Rattle.definitions.proofs.Spelling.TreeShapes.{tree-asks, tree-gives}
use Rattle.definitions.proofs.Spelling.PlainTrees.{sizes}
use Rattle.definitions.proofs.Spelling.TreesThere.{given, there-given, given-names}

-- what is one more at each node than at its children
sum-nodes : (f : ℕ → ℕ) (at : ℕ) (nodes : List TreeNode)
    → ((i : ℕ) → i < length nodes → f (at + i) ≡ 1 + sum_of f (children_of (node_at nodes i)))
    → sum_of f (up_from at (length nodes)) ≡ length nodes + sum_of f (concat_map children_of nodes)
unfolding sum_of up_from concat_map
sum-nodes f at [] each = refl
sum-nodes f at (node ∷ nodes) each =
    let here : f at ≡ 1 + sum_of f (children_of node) =
    ap f {x = at} {y = at + 0} (omega arith) ∙ each 0 (omega arith) in
    let rest = sum-nodes f (suc at) nodes (λ i h.
    ap f {x = suc at + i} {y = at + suc i} (omega arith) ∙ each (suc i) (omega arith)) in
    omega (arith, sum-append f (children_of node) (concat_map children_of nodes))

module _ (nodes : List TreeNode) (classes : List ℕ) where
  -- how many nodes stand at a node and below it
  abbrev size_at : ℕ → ℕ
  size_at node = size_of (tree_at nodes classes node)

  module _ (forward : Forward nodes) where
    size-at : (node : ℕ) → node < length nodes → size_at node ≡ 1 + sum_of size_at (children_of (node_at nodes node))
    unfolding sum_of children_of size_of
    size-at node h =
        by-node nodes node (λ model e. rw (tree-gives nodes classes forward node model h e, e) (omega arith))
        (λ asked yes_node no_node e.
        rw (tree-asks nodes classes forward node asked yes_node no_node h e, e) (omega arith))

    pub trees-size : (roots : List ℕ) → length nodes ≤ no_root
        → ((root : ℕ) → IsIn root (given roots) → root < length nodes) → orphans nodes roots ≡ []
        → sizes (trees_there (map (tree_for nodes classes) roots)) ≡ length nodes
    trees-size roots few listed none =
        let children : List ℕ = concat_map children_of nodes in
        let own : List ℕ = given roots in
        let low : (x : ℕ) → IsIn x (children ++ own) → x < length nodes =
        λ x i. ⊎_elim (child-listed nodes forward x) (listed x) (of-append x children own i) in
        let once : (x : ℕ) → IsIn x (up_from 0 (length nodes)) → occurrences x (children ++ own) ≡ 1 =
        λ x i.
        let (first, last) = of-up_from 0 (length nodes) x i in
        omega (
          arith,
          named-once nodes roots none x (omega (arith, last)),
          given-names x roots (omega (arith, last, few)),
          occurrences-append x children own,
          occurrences-append x children roots,
        ) in
        omega (
          arith,
          ap sizes (there-given nodes classes roots),
          sum-map size_of (tree_at nodes classes) own,
          sum-append size_at children own,
          sum-once size_at (children ++ own) (length nodes) low once,
          sum-nodes size_at 0 nodes (λ i h. ap size_at {x = 0 + i} {y = i} (omega arith) ∙ size-at i h),
        )
