-- Laws about leaves put into the table: what stands in the record of each node afterwards, and leaves put one
-- after the other.
use Rattle.std.specs.Prelude.{◌≡◌, ◌≢◌, ltb}
use Rattle.std.proofs.Math.Path.{refl, sym, ap}
use Rattle.std.proofs.Common.{◌∙◌, inl, inr, take-append-drop, length-take-le, take_at, ltb-true, ltb-false}
use mathlib.Core.List.{List, [], ◌∷◌, ◌++◌, append_assoc}
use Prim.Native.Nat.{ℕ, ◌+◌, ◌-◌, ◌*◌, ◌≤◌, ◌<◌}
use native.Mathlib.Omega.{arith}
use Rattle.std.proofs.Math.ListN.{length, take, drop, length-append, length-drop}
use Rattle.std.proofs.Math.Seq.{drop_at, drop-drop}
use Rattle.std.proofs.lemmas.List.{take-append-le, drop-append-le}
use Rattle.definitions.specs.Matrices.{matrix_words}
use Rattle.definitions.specs.Combinations.{Leaf}
use Rattle.definitions.proofs.Laws.Lists.Tests.{by-test}
use Rattle.definitions.specs.Lists.{IsIn, Distinct}
use Rattle.definitions.proofs.Laws.Trees.Ascending.{leaf_nodes}
use Rattle.definitions.proofs.Laws.Matrices.SevenWords.{words-length}
use Rattle.leafsets.specs.Leaves.{leaf_size, put_leaf, put_leaves}

-- ---- the record of a node

abbrev pub record_at : (table : List ℕ) → (node : ℕ) → List ℕ
record_at table node = take leaf_size (drop (leaf_size * node) table)

-- a leaf of a table of so many nodes
pub record InTable (nodes : ℕ) (l : Leaf) : Type 0 where
  pub listed : l.node < nodes
  pub narrow : length l.carried ≤ 7

-- a table of so many nodes
abbrev pub Sized : (nodes : ℕ) → (table : List ℕ) → Type 0
Sized nodes table = length table ≡ leaf_size * nodes

-- words up to a place are those of the front
front-words : (l : List ℕ) (end i k : ℕ) → i + k ≤ end → end ≤ length l
    → take k (drop i l) ≡ take k (drop i (take end l))
front-words l end i k h r =
    let front : List ℕ = take end l in
    let all : length front ≡ end = length-take-le end l r in
    ap (λ (m : List ℕ). take k (drop i m)) (sym (take-append-drop end l))
    ∙ ap (take k) (drop-append-le i front (drop end l) (omega arith))
    ∙ take-append-le k (drop i front) (drop end l) (omega (arith, length-drop i front))

module _ (nodes : ℕ) (table : List ℕ) (sized : Sized nodes table) (l : Leaf) (f : InTable nodes l) where
  abbrev start : ℕ
  start = leaf_size * l.node

  abbrev new : List ℕ
  new = 1 ∷ matrix_words l.carried

  abbrev before : List ℕ
  before = take start table

  abbrev after : List ℕ
  after = drop (start + leaf_size) table

  inside : start + leaf_size ≤ length table
  inside = omega (arith, f.listed)

  before-length : length before ≡ start
  before-length = length-take-le start table (omega (arith, inside))

  new-length : length new ≡ leaf_size
  new-length = omega (arith, words-length l.carried f.narrow)

  both-length : length (before ++ new) ≡ start + leaf_size
  both-length = length-append before new ∙ omega (arith, before-length, new-length)

  put-length : Sized nodes (put_leaf table l)
  unfolding put_leaf
  put-length =
      length-append (before ++ new) after
      ∙ omega (arith, both-length, length-drop (start + leaf_size) table, inside)

  put-own : record_at (put_leaf table l) l.node ≡ 1 ∷ matrix_words l.carried
  unfolding put_leaf
  put-own =
      rw (append_assoc before new after, drop_at before (new ++ after) start before-length)
      (take_at new after leaf_size new-length)

  put-earlier : (node : ℕ) → node < l.node → record_at (put_leaf table l) node ≡ record_at table node
  unfolding put_leaf
  put-earlier node h =
      let room : leaf_size * node + leaf_size ≤ start = omega arith in
      let whole : List ℕ = before ++ new ++ after in
      let front : take start whole ≡ before =
      rw (append_assoc before new after) (take_at before (new ++ after) start before-length) in
      let long : start ≤ length whole = omega (arith, put-length, inside) in
      front-words whole start (leaf_size * node) leaf_size room long
      ∙ ap (λ (m : List ℕ). take leaf_size (drop (leaf_size * node) m)) front
      ∙ sym (front-words table start (leaf_size * node) leaf_size room (omega (arith, inside)))

  put-later : (node : ℕ) → l.node < node → record_at (put_leaf table l) node ≡ record_at table node
  unfolding put_leaf
  put-later node h =
      let more : ℕ = leaf_size * node - (start + leaf_size) in
      let place : start + leaf_size + more ≡ leaf_size * node = omega arith in
      let whole : List ℕ = before ++ new ++ after in
      let rest : drop (leaf_size * node) whole ≡ drop (leaf_size * node) table =
      rw (← place, ← drop-drop more (start + leaf_size) whole, ← drop-drop more (start + leaf_size) table)
      (ap (drop more) (drop_at (before ++ new) after (start + leaf_size) both-length)) in
      ap (take leaf_size) rest

  put_other : (node : ℕ) → node ≢ l.node → record_at (put_leaf table l) node ≡ record_at table node
  put_other node n =
      by-test (ltb node l.node) (λ t. put-earlier node (ltb-true _ _ t))
      (λ t. put-later node (omega (arith, ltb-false node l.node t, n)))

-- ---- leaves one after the other

pub put-append : (table : List ℕ) (k l : List Leaf)
    → put_leaves table (k ++ l) ≡ put_leaves (put_leaves table k) l
unfolding put_leaves
put-append table [] l = refl
put-append table (x ∷ k) l = put-append (put_leaf table x) k l

-- all of them leaves of a table of so many nodes
abbrev pub AllInTable : (nodes : ℕ) → List Leaf → Type 0
AllInTable nodes leaves = (l : Leaf) → IsIn l leaves → InTable nodes l

module _ (nodes : ℕ) where
  pub all-length : (table : List ℕ) → Sized nodes table → (leaves : List Leaf) → AllInTable nodes leaves
      → Sized nodes (put_leaves table leaves)
  unfolding put_leaves
  all-length table s [] f = s
  all-length table s (l ∷ leaves) f =
      all-length (put_leaf table l) (put-length nodes table s l (f l (inl refl))) leaves (λ x i. f x (inr i))

  -- a node that is none of theirs
  pub all-other : (table : List ℕ) → Sized nodes table → (leaves : List Leaf) → AllInTable nodes leaves
      → (node : ℕ) → (IsIn node (leaf_nodes leaves) → ⊥)
      → record_at (put_leaves table leaves) node ≡ record_at table node
  unfolding put_leaves
  all-other table s [] f node n = refl
  all-other table s (l ∷ leaves) f node n =
      let own = f l (inl refl) in
      all-other (put_leaf table l) (put-length nodes table s l own) leaves (λ x i. f x (inr i)) node
      (λ i. n (inr i))
      ∙ put_other nodes table s l own node (λ e. n (inl e))

  -- the node of one of them
  pub all_own : (table : List ℕ) → Sized nodes table → (leaves : List Leaf) → AllInTable nodes leaves
      → Distinct (leaf_nodes leaves) → (l : Leaf) → IsIn l leaves
      → record_at (put_leaves table leaves) l.node ≡ 1 ∷ matrix_words l.carried
  unfolding put_leaves
  all_own table s [] f u l i = absurd i
  all_own table s (x ∷ leaves) f u l (inl e) =
      let own = f x (inl refl) in
      rw e (all-other (put_leaf table x) (put-length nodes table s x own) leaves (λ y i. f y (inr i)) x.node
      u.0 ∙ put-own nodes table s x own)
  all_own table s (x ∷ leaves) f u l (inr i) =
      all_own (put_leaf table x) (put-length nodes table s x (f x (inl refl))) leaves (λ y j. f y (inr j)) u.1
      l i
