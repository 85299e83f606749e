-- Laws about the names in trees numbered anew: "Every node is named exactly once, as a child or as a root".
-- The idea: its root and its children are all nodes of a tree, counted up from its root's number, each once; so
-- all roots and all children are all numbers from 0 on. The plain form is accepted by them.
use Rattle.std.specs.Prelude.{◌≡◌, not, eqb, length}
use Rattle.std.proofs.Common.{ap, ◌∙◌, ne_eqb}
use mathlib.Core.List.{List, [], ◌∷◌, ◌++◌}
use Rattle.std.proofs.Math.Option.{Option, none, some}
use Prim.Native.Nat.{ℕ, suc, ◌+◌, ◌≤◌, ◌<◌}
use native.Mathlib.Omega.{arith}
use Rattle.definitions.specs.Lists.{concat_map, up_from, occurrences, sum_of}
use Rattle.definitions.specs.BookLines.{TreeNode, children_of, no_root}
use Rattle.definitions.specs.BookReading.{orphans}
use Rattle.definitions.specs.PlainForm.{Tree, asking, giving, size_of, nodes_from, all_nodes, roots_from, trees_there}
use Rattle.definitions.proofs.Laws.Lists.Lists.{concat_map-append, up_from-parts}
use Rattle.definitions.proofs.Laws.Lists.Members.{of-up_from}
use Rattle.definitions.proofs.Laws.Lists.Selected.{select-none}
use Rattle.definitions.proofs.Laws.Lists.Occurrences.{occurrences-append, counted-once}
use Rattle.definitions.proofs.Spelling.PlainTrees.{sizes, all-size}

module _ (sets : List ℕ) (x : ℕ) where
  -- how often x is a child of nodes
  abbrev as_child : List TreeNode → ℕ
  as_child nodes = occurrences x (concat_map children_of nodes)

  child-append : (k l : List TreeNode) → as_child (k ++ l) ≡ as_child k + as_child l
  child-append k l =
      ap (occurrences x) (concat_map-append children_of k l)
      ∙ occurrences-append x (concat_map children_of k) (concat_map children_of l)

  -- how often it is one number, and one of several
  abbrev as_one : ℕ → ℕ
  as_one y = occurrences x (y ∷ [])

  abbrev among : (at count : ℕ) → ℕ
  among at count = occurrences x (up_from at count)

  among-parts : (at k n : ℕ) → among at (k + n) ≡ among at k + among (at + k) n
  among-parts at k n =
      ap (occurrences x) (up_from-parts at k n) ∙ occurrences-append x (up_from at k) (up_from (at + k) n)

  -- a tree's root and children are its nodes
  tree-names : (at : ℕ) (t : Tree) → as_one at + as_child (nodes_from sets at t) ≡ among at (size_of t)
  unfolding nodes_from size_of concat_map children_of occurrences up_from
  tree-names at (giving model) = omega arith
  tree-names at (asking asked on_yes on_no) =
      let left : ℕ = suc at in
      let right : ℕ = left + size_of on_yes in
      let ys : List TreeNode = nodes_from sets left on_yes in
      let ns : List TreeNode = nodes_from sets right on_no in
      let two = occurrences-append x (left ∷ []) (right ∷ concat_map children_of (ys ++ ns)) in
      let one = occurrences-append x (right ∷ []) (concat_map children_of (ys ++ ns)) in
      let own = occurrences-append x (at ∷ []) (up_from left (size_of on_yes + size_of on_no)) in
      omega (
        arith,
        child-append ys ns,
        tree-names left on_yes,
        tree-names right on_no,
        among-parts left (size_of on_yes) (size_of on_no),
      )

  -- so all roots and children are all nodes; where there is no tree no node is named
  all-names : (at : ℕ) (trees : List (Option Tree)) → x < no_root
      → occurrences x (concat_map children_of (all_nodes sets at (trees_there trees)) ++ roots_from at trees)
      ≡ among at (sizes (trees_there trees))
  unfolding all_nodes roots_from trees_there sum_of occurrences up_from concat_map
  all-names at trees node =
      occurrences-append x (concat_map children_of (all_nodes sets at (trees_there trees))) (roots_from at trees)
      ∙ both at trees
    where
      both : (at : ℕ) (trees : List (Option Tree))
          → as_child (all_nodes sets at (trees_there trees)) + occurrences x (roots_from at trees)
          ≡ among at (sizes (trees_there trees))
      both at [] = omega arith
      both at (none ∷ trees) = rw (ne_eqb x no_root (λ e. omega (arith, e, node))) (both at trees)
      both at (some t ∷ trees) =
          let next : ℕ = at + size_of t in
          let there : List Tree = trees_there trees in
          omega (
            arith,
            child-append (nodes_from sets at t) (all_nodes sets next there),
            occurrences-append x (at ∷ []) (roots_from next trees),
            tree-names at t,
            both next trees,
            among-parts at (size_of t) (sizes there),
          )

pub plain-named : (sets : List ℕ) (trees : List (Option Tree)) → sizes (trees_there trees) ≤ no_root
    → orphans (all_nodes sets 0 (trees_there trees)) (roots_from 0 trees) ≡ []
unfolding orphans
plain-named sets trees room =
    let there : List Tree = trees_there trees in
    let nodes : List TreeNode = all_nodes sets 0 there in
    let many = all-size sets 0 there in
    select-none (λ node. not (eqb (occurrences node (concat_map children_of nodes ++ roots_from 0 trees)) 1))
    (up_from 0 (length nodes)) (λ node i.
    let (low, high) = of-up_from 0 (length nodes) node i in
    rw (
      all-names sets node 0 trees (omega (arith, many, high, room)),
      counted-once 0 (sizes there) node low (omega (arith, many, high)),
    ))
