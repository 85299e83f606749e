-- Laws about trees numbered anew: the trees of the numbered book are these trees, so the plain form of a book
-- has the trees that the book has.
-- The idea: the nodes of a tree stand together from its root's number on, so a tree is found again wherever its
-- nodes stand between others. Both directions of "the same bytes exactly when" go by it.
use Rattle.std.specs.Prelude.{◌≡◌}
use Rattle.std.proofs.Math.Path.{refl, ap, ap₂}
use Rattle.std.proofs.Common.{◌∙◌, sym, subst, inl, inr, arith}
use mathlib.Core.List.{List, [], ◌∷◌, ◌++◌, map, append_assoc}
use Rattle.std.proofs.Math.Bool.{false}
use Rattle.std.proofs.Math.Option.{Option, none, some}
use Prim.Native.Nat.{ℕ, zero, suc, ◌+◌, ◌-◌, ◌≤◌}
use Rattle.std.proofs.Math.Dec.{eqb}
use Rattle.std.proofs.Math.ListN.{length, length-append}
use Rattle.std.proofs.lemmas.List.{get_or_at}
use borrow.Author.Tests.{ne_eqb}
use Rattle.definitions.specs.Lists.{if◌then◌else◌, ◌!◌, concat_map, sum_of, place_of, IsIn}
use Rattle.definitions.specs.BookLines.{TreeNode, question, leaf, no_root}
use Rattle.definitions.specs.Tables.{Contents}
use Rattle.definitions.specs.PlainForm.{Question, Tree, asking, giving, question_of, tree_below, trees_of}
use Rattle.definitions.specs.PlainForm.{sets_in, sets_of, asked_among, size_of, nodes_from, all_nodes, roots_from}
use Rattle.definitions.specs.PlainForm.{trees_there, numbered, plain_contents}
use Rattle.definitions.proofs.Laws.Lists.Members.{in_left, in_right}
use Rattle.definitions.proofs.Laws.Lists.Places.{numbers-told, placed}
use Rattle.definitions.proofs.Spelling.TreeShapes.{some-node, below-asks, below-gives}
use Rattle.definitions.proofs.Spelling.FirstUses.{used-first}

-- ---- how many nodes

pub nodes-size : (sets : List ℕ) (at : ℕ) (t : Tree) → length (nodes_from sets at t) ≡ size_of t
unfolding nodes_from size_of
nodes-size sets at (asking asked on_yes on_no) =
    let yes-size = nodes-size sets (suc at) on_yes in
    let no_size = nodes-size sets (suc at + size_of on_yes) on_no in
    rw length-append (omega arith)
nodes-size sets at (giving model) = refl

-- the nodes of all trees
abbrev pub sizes : List Tree → ℕ
sizes trees = sum_of size_of trees

pub all-size : (sets : List ℕ) (at : ℕ) (trees : List Tree) → length (all_nodes sets at trees) ≡ sizes trees
unfolding all_nodes sum_of
all-size sets at [] = refl
all-size sets at (t ∷ trees) =
    rw length-append (omega (arith, nodes-size sets at t, all-size sets (at + size_of t) trees))

pub roots-length : (at : ℕ) (trees : List (Option Tree)) → length (roots_from at trees) ≡ length trees
unfolding roots_from
roots-length at [] = refl
roots-length at (none ∷ trees) = ap suc (roots-length at trees)
roots-length at (some t ∷ trees) = ap suc (roots-length (at + size_of t) trees)

-- ---- the tree again

module _ (sets : List ℕ) where
  -- every set that a tree asks for has a class
  abbrev HasClasses : Tree → Type 0
  HasClasses t = (set : ℕ) → IsIn set (sets_in t) → IsIn set sets

  -- what a question asks is the same by its new class
  asked-again : (asked : Question) → IsIn asked.set sets → question_of sets (asked_among sets asked) ≡ asked
  asked-again asked i =
      let place : ℕ = place_of eqb sets asked.set in
      let same : sets ! (suc place - 1) ≡ asked.set =
      ap (λ (n : ℕ). sets ! n) {x = suc place - 1} {y = place} (omega arith)
      ∙ (placed eqb numbers-told 0 asked.set sets i).1 in
      rw same

  tree_again : (levels : ℕ) (k : List TreeNode) (t : Tree) (l : List TreeNode) (at : ℕ) → length k ≡ at
      → size_of t ≤ levels → HasClasses t
      → tree_below levels (k ++ (nodes_from sets at t ++ l)) sets at ≡ t
  unfolding size_of nodes_from sets_in
  tree_again zero k (asking asked on_yes on_no) l at e few used = absurd (omega arith)
  tree_again zero k (giving model) l at e few used = absurd (omega arith)
  tree_again (suc levels) k (giving model) l at e few used =
      below-gives (k ++ (leaf model ∷ l)) sets levels at model (get_or_at k (leaf model) l (leaf 0) at e)
  tree_again (suc levels) k (asking asked on_yes on_no) l at e few used =
      let middle : ℕ = suc at + size_of on_yes in
      let own : TreeNode = question (asked_among sets asked) (suc at) middle in
      let ys : List TreeNode = nodes_from sets (suc at) on_yes in
      let ns : List TreeNode = nodes_from sets middle on_no in
      let up : List TreeNode = k ++ (own ∷ []) in
      let whole : List TreeNode = k ++ (((own ∷ ys) ++ ns) ++ l) in
      let first : whole ≡ up ++ (ys ++ (ns ++ l)) = simp append_assoc in
      let second : whole ≡ (up ++ ys) ++ (ns ++ l) = simp append_assoc in
      let here : length up ≡ suc at = rw length-append (omega arith) in
      let there : length (up ++ ys) ≡ middle =
      simp length-append (omega (arith, nodes-size sets (suc at) on_yes)) in
      below-asks whole sets levels at _ _ _ (get_or_at k own ((ys ++ ns) ++ l) (leaf 0) at e)
      ∙ ap₂ (asking (question_of sets (asked_among sets asked)))
      (rw first (tree_again levels up on_yes (ns ++ l) (suc at) here (omega arith)
      (λ s i. used s (inr (in_left s (sets_in on_yes) (sets_in on_no) i)))))
      (rw second (tree_again levels (up ++ ys) on_no l middle there (omega arith)
      (λ s i. used s (inr (in_right s (sets_in on_yes) (sets_in on_no) i)))))
      ∙ ap (λ (q : Question). asking q on_yes on_no) (asked-again asked (used asked.set (inl refl)))

  -- what is found at a new root: all numbers of nodes are below the word that is no root
  abbrev found : (levels : ℕ) → List TreeNode → (root : ℕ) → Option Tree
  found levels nodes root = if eqb root no_root then none else some (tree_below levels nodes sets root)

  -- all trees, from root to root, and none where there was none
  trees-again : (levels : ℕ) (k : List TreeNode) (trees : List (Option Tree)) (at : ℕ) → length k ≡ at
      → sizes (trees_there trees) ≤ levels → at + sizes (trees_there trees) ≤ no_root
      → ((set : ℕ) → IsIn set (concat_map sets_in (trees_there trees)) → IsIn set sets)
      → map (found levels (k ++ all_nodes sets at (trees_there trees))) (roots_from at trees) ≡ trees
  unfolding all_nodes roots_from trees_there sum_of concat_map
  trees-again levels k [] at e few room used = refl
  trees-again levels k (none ∷ trees) at e few room used =
      ap (λ (l : List (Option Tree)). none ∷ l) (trees-again levels k trees at e few room used)
  trees-again levels k (some t ∷ trees) at e few room used =
      let there : List Tree = trees_there trees in
      let own : List TreeNode = nodes_from sets at t in
      let rest : List TreeNode = all_nodes sets (at + size_of t) there in
      let moved : k ++ (own ++ rest) ≡ (k ++ own) ++ rest = simp append_assoc in
      let next : length (k ++ own) ≡ at + size_of t = rw length-append (omega (arith, nodes-size sets at t)) in
      let a-node : eqb at no_root ≡ false = ne_eqb at no_root (λ q. omega (arith, q, some-node t, room)) in
      ap₂ (λ (x : Option Tree) (l : List (Option Tree)). x ∷ l)
      (rw a-node (ap some (tree_again levels k t rest at e (omega arith)
      (λ s i. used s (in_left s (sets_in t) (concat_map sets_in there) i)))))
      (subst (λ (l : List TreeNode). map (found levels l) (roots_from (at + size_of t) trees) ≡ trees)
      (sym moved) (trees-again levels (k ++ own) trees (at + size_of t) next (omega arith) (omega arith)
      (λ s i. used s (in_right s (sets_in t) (concat_map sets_in there) i))))

-- the trees of numbered trees are those trees
pub numbered-trees : (half states phones : ℕ) (plains : List ℕ) (trees : List (Option Tree))
    → sizes (trees_there trees) ≤ no_root → trees_of (numbered half states phones plains trees) ≡ trees
unfolding trees_of numbered sets_of
numbered-trees half states phones plains trees room =
    let there : List Tree = trees_there trees in
    let many = all-size (sets_of there) 0 there in
    trees-again (sets_of there) (length (all_nodes (sets_of there) 0 there)) [] trees 0 refl (omega arith)
    (omega arith) (λ s i. used-first [] (concat_map sets_in there) s i)

pub plain-trees : (contents : Contents) → sizes (trees_there (trees_of contents)) ≤ no_root
    → trees_of (plain_contents contents) ≡ trees_of contents
unfolding plain_contents
plain-trees contents room =
    numbered-trees contents.half contents.states contents.phones contents.plains (trees_of contents) room
