-- The trees of a book that lines can state fit its header, and trees that fit one header, numbered anew, are
-- nodes that fit another: positions and models stay, a set has a class, and children are greater nodes.
use Rattle.std.specs.Prelude.{◌≡◌, refl, eqb, length}
use Rattle.std.proofs.Common.{sym, subst, inl, inr, ⊎_elim, arith}
use mathlib.Core.List.{List, [], ◌∷◌}
use Prim.Native.Nat.{ℕ, zero, suc, ◌+◌, ◌-◌, ◌*◌, ◌≤◌, ◌<◌}
use Rattle.definitions.specs.declared.Header.{Header}
use Rattle.definitions.specs.Lists.{concat_map, sum_of, IsIn}
use Rattle.definitions.specs.Forms.{◌‥◌}
use Rattle.definitions.specs.BookLines.{TreeNode, Asked}
use Rattle.definitions.specs.PlainForm.{Question, Tree, asking, giving, question_of, tree_below, sets_in}
use Rattle.definitions.specs.PlainForm.{asked_among, size_of, nodes_from, all_nodes}
use Rattle.definitions.proofs.Laws.Lists.Members.{in-at, in_left, in_right, of-append}
use Rattle.definitions.proofs.Laws.Lists.Places.{numbers-told, placed}
use Rattle.definitions.specs.Ranges.{Within}
use Rattle.definitions.proofs.Laws.Trees.Walks.{Forward, by-node}
use Rattle.definitions.proofs.Laws.Books.Accepted.{AllFrom, all_append, AskedFits, NodeFits}
use Rattle.definitions.proofs.Laws.Books.Accepted.{question-fitting, leaf-fitting}
use Rattle.definitions.proofs.Spelling.TreeShapes.{some-node, below-asks, below-gives}
use Rattle.definitions.proofs.Spelling.PlainTrees.{nodes-size, sizes}

-- positions of a context of this half-width, sets of these classes, models in range
pub record Askable (half : ℕ) (classes : List ℕ) (asked : Question) : Type 0 where
  pub position_high : asked.position ≤ 2 * half
  pub of_class : IsIn asked.set classes

abbrev pub TreeFits : (half : ℕ) (classes : List ℕ) → Tree → Type 0
TreeFits half classes (asking asked on_yes on_no) =
    Askable half classes asked × TreeFits half classes on_yes × TreeFits half classes on_no
TreeFits half classes (giving model) = Within (1 ‥ 65535) model

-- the sets of a tree that fits are classes
pub sets-listed : (half : ℕ) (classes : List ℕ) (t : Tree) → TreeFits half classes t
    → (set : ℕ) → IsIn set (sets_in t) → IsIn set classes
unfolding sets_in
sets-listed half classes (asking asked on_yes on_no) (own, y, n) s (inl e) =
    subst (λ x. IsIn x classes) (sym e) own.of_class
sets-listed half classes (asking asked on_yes on_no) (own, y, n) s (inr i) =
    ⊎_elim (sets-listed half classes on_yes y s) (sets-listed half classes on_no n s)
    (of-append s (sets_in on_yes) (sets_in on_no) i)
sets-listed half classes (giving model) f s i = absurd i

-- ---- the trees of nodes that fit

module _ (header : Header) (nodes : List TreeNode) (classes : List ℕ)
    (fit : AllFrom (NodeFits header) 0 nodes) (forward : Forward nodes)
    (counted : header.classes ≡ length classes)
  where
    question-askable : (asked : Asked) → AskedFits header asked
        → Askable header.half classes (question_of classes asked)
    question-askable asked f =
        record {
          position_high = f.position_high;
          of_class = in-at classes (asked.class - 1) 0 (omega (arith, f.class_low, f.class_high));
        }

    pub tree-fits : (levels node : ℕ) → node < length nodes → length nodes ≤ node + levels
        → TreeFits header.half classes (tree_below levels nodes classes node)
    tree-fits zero node h k = absurd (omega arith)
    tree-fits (suc levels) node h k =
        by-node nodes node
        (λ model e.
        rw (below-gives nodes classes levels node model e) (leaf-fitting header nodes fit node model h e))
        (λ asked yes_node no_node e.
        let q = question-fitting header nodes fit node asked yes_node no_node e in
        let (yes_later, no_later) = forward node asked yes_node no_node e in
        rw (below-asks nodes classes levels node asked yes_node no_node e) (
          question-askable asked q.in-range,
          tree-fits levels yes_node yes_later.listed (omega (arith, yes_later.greater)),
          tree-fits levels no_node no_later.listed (omega (arith, no_later.greater)),
        ))

-- ---- the nodes of trees that fit

module _ (header : Header) (classes sets : List ℕ) (counted : header.classes ≡ length sets) where
  among-fits : (asked : Question) → Askable header.half classes asked → IsIn asked.set sets
      → AskedFits header (asked_among sets asked)
  among-fits asked f i =
      record {
        class_low = omega arith;
        class_high = omega (arith, (placed eqb numbers-told 0 asked.set sets i).0);
        position_high = f.position_high;
      }

  nodes-fit : (at : ℕ) (t : Tree) → TreeFits header.half classes t
      → ((set : ℕ) → IsIn set (sets_in t) → IsIn set sets) → at + size_of t ≤ header.nodes
      → AllFrom (NodeFits header) at (nodes_from sets at t)
  unfolding nodes_from size_of sets_in
  nodes-fit at (giving model) f used room = (f, tt)
  nodes-fit at (asking asked on_yes on_no) (own, y, n) used room =
      let left : ℕ = suc at in
      let right : ℕ = left + size_of on_yes in
      let yes-some = some-node on_yes in
      let no-some = some-node on_no in (
        record {
          in-range = among-fits asked own (used asked.set (inl refl));
          yes_greater = omega arith;
          yes_listed = omega arith;
          no_greater = omega arith;
          no_listed = omega arith;
        },
        all_append (NodeFits header) left right (nodes_from sets left on_yes) (nodes_from sets right on_no)
            (omega (arith, nodes-size sets left on_yes))
            (nodes-fit left on_yes y (λ s i. used s (inr (in_left s (sets_in on_yes) (sets_in on_no) i))) (omega arith))
            (nodes-fit right on_no n (λ s i. used s (inr (in_right s (sets_in on_yes) (sets_in on_no) i))) (omega arith)),
      )

  pub all-nodes-fit : (at : ℕ) (trees : List Tree)
      → ((t : Tree) → IsIn t trees → TreeFits header.half classes t)
      → ((set : ℕ) → IsIn set (concat_map sets_in trees) → IsIn set sets) → at + sizes trees ≤ header.nodes
      → AllFrom (NodeFits header) at (all_nodes sets at trees)
  unfolding all_nodes sum_of concat_map
  all-nodes-fit at [] fit used room = tt
  all-nodes-fit at (t ∷ trees) fit used room =
      let next : ℕ = at + size_of t in
      all_append (NodeFits header) at next (nodes_from sets at t) (all_nodes sets next trees)
      (omega (arith, nodes-size sets at t))
      (nodes-fit at t (fit t (inl refl)) (λ s i. used s (in_left s (sets_in t) (concat_map sets_in trees) i))
      (omega arith))
      (all-nodes-fit next trees (λ u i. fit u (inr i))
      (λ s i. used s (in_right s (sets_in t) (concat_map sets_in trees) i)) (omega arith))
