-- Laws about the leaves of a tree: what both sides of each question keep holds of every leaf, and in ascending
-- order they are the same leaves. The choice of a combination for a window and the order of combinations use
-- them.
use Rattle.std.specs.Prelude.{◌≡◌, Bool, true, false}
use Rattle.std.proofs.Math.Path.{refl, subst}
use Rattle.std.proofs.Common.{sym, ap, ◌∙◌, inl, inr, arith}
use Rattle.std.proofs.Math.Logic.{⊎_elim}
use mathlib.Core.List.{List, [], ◌∷◌, ◌++◌}
use Prim.Native.Nat.{ℕ, zero, suc, ◌≤◌}
use Rattle.std.proofs.Math.ListN.{length}
use Rattle.definitions.specs.Lists.{if◌then◌else◌, select, IsIn}
use Rattle.definitions.specs.BookLines.{question, leaf, Asked}
use Rattle.definitions.specs.Tables.{Book}
use Rattle.definitions.specs.Lookup.{node_at}
use Rattle.definitions.specs.Combinations.{Leaf, leaves_below, is_before, insert_leaf, ascending, on_yes}
use Rattle.definitions.specs.Combinations.{on_no}
use Rattle.definitions.proofs.Laws.Lists.Members.{of-append, of-single}
use Rattle.definitions.proofs.Laws.Trees.Walks.{IsLeaf, by-node}
use Rattle.definitions.proofs.Demand.Carrier.{Carrier}

-- ---- a step down a tree: a leaf stays, a question has two sides

module _ (book : Book) (levels : ℕ) (m : Carrier) (node : ℕ) where
  pub below-leaf : (model : ℕ) → node_at book.nodes node ≡ leaf model
      → leaves_below (suc levels) book m node ≡ record { node = node; carried = m } ∷ []
  unfolding leaves_below
  below-leaf model e = rw (e, leaves_below)

  pub below-question : (asked : Asked) (yes_node no_node : ℕ)
      → node_at book.nodes node ≡ question asked yes_node no_node
      → leaves_below (suc levels) book m node
      ≡ leaves_below levels book (on_yes book.classes asked m) yes_node
      ++ leaves_below levels book (on_no book.classes asked m) no_node
  unfolding leaves_below
  below-question asked yes_node no_node e = rw (e, leaves_below)

-- ---- the leaves below a node

-- what both sides of each question keep holds of every leaf below a node of which it holds
module _ (book : Book) (P : (m : Carrier) → (node : ℕ) → Type 0)
    (sides : (m : Carrier) (node : ℕ) (asked : Asked) (yes_node no_node : ℕ)
    → node_at book.nodes node ≡ question asked yes_node no_node → P m node
    → P (on_yes book.classes asked m) yes_node
    × P (on_no book.classes asked m) no_node)
  where
    pub below_all : (levels : ℕ) (m : Carrier) (node : ℕ) → P m node
        → (l : Leaf) → IsIn l (leaves_below levels book m node)
        → P l.carried l.node × IsLeaf book.nodes l.node
    unfolding leaves_below
    below_all zero m node h l i = absurd i
    below_all (suc levels) m node h l i =
        by-node book.nodes node
        (λ model e.
        let same = of-single (record { node = node; carried = m }) l
        (rw (below-leaf book levels m node model e) at i) in
        subst (λ k. P k.carried k.node × IsLeaf book.nodes k.node) (sym same) (h, (model, e)))
        (λ asked yes_node no_node e.
        let a : Carrier = on_yes book.classes asked m in
        let b : Carrier = on_no book.classes asked m in
        let (yes_holds, no_holds) = sides m node asked yes_node no_node e h in
        ⊎_elim (below_all levels a yes_node yes_holds l) (below_all levels b no_node no_holds l)
        (of-append l (leaves_below levels book a yes_node) (leaves_below levels book b no_node)
        (rw (below-question book levels m node asked yes_node no_node e) at i)))

-- ---- ascending leaves are the same leaves

pub of-insert : (x l : Leaf) (leaves : List Leaf) → IsIn x (insert_leaf l leaves) → IsIn x (l ∷ leaves)
unfolding insert_leaf
of-insert x l [] h = h
of-insert x l (first ∷ leaves) h = go (is_before l first) h (λ i. of-insert x l leaves i)
  where
    go : (b : Bool) → IsIn x (if b then l ∷ first ∷ leaves else first ∷ insert_leaf l leaves)
        → (IsIn x (insert_leaf l leaves) → IsIn x (l ∷ leaves)) → IsIn x (l ∷ first ∷ leaves)
    go true i rest = i
    go false (inl e) rest = inr (inl e)
    go false (inr i) rest = ⊎_elim inl (λ j. inr (inr j)) (rest i)

pub of-ascending : (x : Leaf) (leaves : List Leaf) → IsIn x (ascending leaves) → IsIn x leaves
unfolding ascending
of-ascending x [] h = h
of-ascending x (l ∷ leaves) h =
    ⊎_elim inl (λ i. inr (of-ascending x leaves i)) (of-insert x l (ascending leaves) h)

-- ---- in ascending order: where at most one leaf passes a test, its place among the others does not matter

abbrev kept : Bool → Leaf → List Leaf → List Leaf
kept b l leaves = if b then l ∷ leaves else leaves

kept-length : (b : Bool) (l : Leaf) (leaves : List Leaf) → length leaves ≤ length (kept b l leaves)
kept-length true l leaves = omega arith
kept-length false l leaves = omega arith

swapped : (a b : Bool) (x y : Leaf) (l : List Leaf) → length (kept a x (kept b y l)) ≤ 1
    → kept b y (kept a x l) ≡ kept a x (kept b y l)
swapped true true x y l h = absurd (omega arith)
swapped true false x y l h = refl
swapped false b x y l h = refl

module _ (test : Leaf → Bool) where
  select-insert : (l : Leaf) (leaves : List Leaf) → length (select test (l ∷ leaves)) ≤ 1
      → select test (insert_leaf l leaves) ≡ select test (l ∷ leaves)
  unfolding select insert_leaf
  select-insert l [] h = refl
  select-insert l (first ∷ leaves) h = go (is_before l first) (select-insert l leaves fewer)
    where
      either : kept (test first) first (select test (l ∷ leaves)) ≡ select test (l ∷ first ∷ leaves)
      either = swapped (test l) (test first) l first (select test leaves) h

      fewer : length (select test (l ∷ leaves)) ≤ 1
      fewer = omega (arith, kept-length (test first) first (select test (l ∷ leaves)), ap length either)

      go : (b : Bool) → select test (insert_leaf l leaves) ≡ select test (l ∷ leaves)
          → select test (if b then l ∷ first ∷ leaves else first ∷ insert_leaf l leaves)
          ≡ select test (l ∷ first ∷ leaves)
      go true rest = refl
      go false rest = rw rest either

  pub select-ascending : (leaves : List Leaf) → length (select test leaves) ≤ 1
      → select test (ascending leaves) ≡ select test leaves
  unfolding select ascending
  select-ascending [] h = refl
  select-ascending (l ∷ leaves) h = go (ap (kept (test l) l) (select-ascending leaves fewer))
    where
      fewer : length (select test leaves) ≤ 1
      fewer = omega (arith, kept-length (test l) l (select test leaves))

      go : select test (l ∷ ascending leaves) ≡ select test (l ∷ leaves)
          → select test (insert_leaf l (ascending leaves)) ≡ select test (l ∷ leaves)
      go rest = select-insert l (ascending leaves) (rw rest h) ∙ rest
