-- Laws about the list of leaves: where leaves of different nodes were put into a table in which no record was
-- used, the used records in order are the leaves ascending. The used nodes and the leaves' nodes are the same
-- numbers, and both rise.
use Rattle.std.specs.Prelude.{◌≡◌, ◌⊎◌, Bool, true, false, not, ℕ, zero, suc, ◌+◌, ◌*◌, ◌/◌, ◌≤◌, ◌<◌, T, eqb}
use Rattle.std.proofs.Math.Path.{refl, ap}
use Rattle.std.proofs.Common.{sym, ap₂, ◌∙◌, subst, inl, inr, ⊎_elim, add-zero, arith, lit<, get_or-take, get_or-drop, drop-drop}
use mathlib.Core.List.{List, [], ◌∷◌}
use Rattle.std.proofs.Math.Decide.{ℕ_discrete}
use Rattle.std.proofs.Math.ListN.{length, take, drop}
use Rattle.definitions.specs.Lists.{if◌then◌else◌, ◌!◌, concat_map, up_from, select, cleared, IsIn, Distinct}
use Rattle.definitions.specs.Matrices.{matrix_words}
use Rattle.definitions.specs.Combinations.{Leaf, is_before, insert_leaf, ascending}
use Rattle.definitions.proofs.Laws.Lists.Tests.{by-test}
use Rattle.definitions.proofs.Laws.Lists.Lists.{concat_map-map}
use Rattle.definitions.proofs.Laws.Lists.Members.{in_map, of_map, concat_map-same}
use Rattle.definitions.proofs.Laws.Lists.Selected.{select-here, select-past}
use Rattle.definitions.proofs.Laws.Lists.Rising.{Rising}
use Rattle.definitions.proofs.Laws.Trees.Leaves.{of-ascending}
use Rattle.definitions.proofs.Laws.Trees.Ascending.{leaf_nodes, LeafBefore, ascending-rising}
use Rattle.leafsets.specs.Leaves.{leaf_size, put_leaves, is_marked, listed_at, listed, NoneUsed, leaf_words}
use Rattle.leafsets.specs.Laws.PuttingLeaves.{record_at, Sized, AllInTable, all-length, all-other, all_own}

-- ---- numbers that rise

-- those of a range that pass a test are the rising numbers of the range that pass it
selected-rising : (test : ℕ → Bool) (a count : ℕ) (l : List ℕ) → Rising ◌<◌ l
    → ((x : ℕ) → IsIn x l → (a ≤ x) × (x < a + count))
    → ((x : ℕ) → IsIn x l → T (test x))
    → ((x : ℕ) → a ≤ x → x < a + count → T (test x) → IsIn x l)
    → select test (up_from a count) ≡ l
unfolding up_from select
selected-rising test a zero [] r within passes all = refl
selected-rising test a zero (x ∷ l) r within passes all = absurd (omega (arith, within x (inl refl)))
selected-rising test a (suc count) [] r within passes all =
    by-test (test a) (λ t. absurd (all a (omega arith) (omega arith) (rw t tt)))
    (λ t. select-past test a (up_from (suc a) count) t
    ∙ selected-rising test (suc a) count [] tt (λ x i. absurd i) passes
    (λ x h k. all x (omega arith) (omega arith)))
selected-rising test a (suc count) (x ∷ l) r within passes all = go (ℕ_discrete x a)
    (λ e. selected-rising test (suc a) count l r.1
    (λ y i. omega (arith, r.0 y i, within y (inr i))) (λ y i. passes y (inr i))
    (λ y h k t. later y (omega arith) (all y (omega arith) (omega arith) t)))
    (λ n. selected-rising test (suc a) count (x ∷ l) r
    (λ y i. omega (arith, above n y i, within y i)) passes
    (λ y h k. all y (omega arith) (omega arith)))
  where
    later : (y : ℕ) → x < y → IsIn y (x ∷ l) → IsIn y l
    later y h (inl e) = absurd (omega arith)
    later y h (inr i) = i

    above : (x ≡ a → ⊥) → (y : ℕ) → IsIn y (x ∷ l) → a < y
    above n y (inl e) = omega (arith, within x (inl refl))
    above n y (inr i) = omega (arith, r.0 y i, within x (inl refl))

    go : Dec (x ≡ a) → (x ≡ a → select test (up_from (suc a) count) ≡ l)
        → ((x ≡ a → ⊥) → select test (up_from (suc a) count) ≡ x ∷ l)
        → select test (up_from a (suc count)) ≡ x ∷ l
    go (yes e) same other =
        select-here test a (up_from (suc a) count) (by-test (test a) (λ t. t)
        (λ t. absurd (subst (λ (b : Bool). T b) t (subst (λ (y : ℕ). T (test y)) e (passes x (inl refl))))))
        ∙ ap₂ (λ (y : ℕ) (k : List ℕ). y ∷ k) (sym e) (same e)
    go (no n) same other =
        by-test (test a)
        (λ t. absurd (omega (arith, above n a (all a (omega arith) (omega arith) (rw t tt)))))
        (λ t. select-past test a (up_from (suc a) count) t ∙ other n)

-- ---- ascending leaves

in_insert : (x l : Leaf) (leaves : List Leaf) → IsIn x (l ∷ leaves) → IsIn x (insert_leaf l leaves)
unfolding insert_leaf
in_insert x l [] h = h
in_insert x l (first ∷ leaves) h = go (is_before l first) h (λ i. in_insert x l leaves i)
  where
    go : (b : Bool) → IsIn x (l ∷ first ∷ leaves) → (IsIn x (l ∷ leaves) → IsIn x (insert_leaf l leaves))
        → IsIn x (if b then l ∷ first ∷ leaves else first ∷ insert_leaf l leaves)
    go true i rest = i
    go false (inl e) rest = inr (rest (inl e))
    go false (inr (inl e)) rest = inl e
    go false (inr (inr i)) rest = inr (rest (inr i))

in-ascending : (x : Leaf) (leaves : List Leaf) → IsIn x leaves → IsIn x (ascending leaves)
unfolding ascending
in-ascending x [] h = h
in-ascending x (l ∷ leaves) (inl e) = in_insert x l (ascending leaves) (inl e)
in-ascending x (l ∷ leaves) (inr i) = in_insert x l (ascending leaves) (inr (in-ascending x leaves i))

rising-nodes : (leaves : List Leaf) → Rising LeafBefore leaves → Rising ◌<◌ (leaf_nodes leaves)
rising-nodes [] r = tt
rising-nodes (l ∷ leaves) r = (
  λ y h. let (x, i, e) = of_map (λ (l : Leaf). l.node) y leaves h in omega (arith, r.0 x i),
  rising-nodes leaves r.1,
)

-- ---- what a record says

module _ (table : List ℕ) (node : ℕ) where
  mark-is : table ! (leaf_size * node) ≡ record_at table node ! 0
  mark-is =
      sym (get_or-take leaf_size (drop (leaf_size * node) table) 0 0 (lit< tt)
      ∙ get_or-drop (leaf_size * node) table 0 0 ∙ rw add-zero)

  marked-as : (b : Bool) → eqb (record_at table node ! 0) 0 ≡ b → is_marked table node ≡ not b
  unfolding is_marked
  marked-as b e = rw (mark-is, e)

  marked : (words : List ℕ) → record_at table node ≡ 1 ∷ words → is_marked table node ≡ true
  marked words e = marked-as false (rw e)

  listed-as : (words : List ℕ) → record_at table node ≡ 1 ∷ words → listed_at table node ≡ node ∷ words
  unfolding listed_at
  listed-as words e =
      ap (λ (m : List ℕ). node ∷ take 7 m) (sym (drop-drop 1 (leaf_size * node) table))
      ∙ ap (λ (m : List ℕ). node ∷ m) (rest (drop (leaf_size * node) table) ∙ ap (drop 1) e)
    where
      rest : (l : List ℕ) → take 7 (drop 1 l) ≡ drop 1 (take leaf_size l)
      rest [] = refl
      rest (x ∷ l) = refl

-- the same record in two tables is used in both or in none
marked-same : (a b : List ℕ) (node : ℕ) → record_at a node ≡ record_at b node → is_marked a node ≡ is_marked b node
unfolding is_marked
marked-same a b node e = rw (mark-is a node, mark-is b node, e)

-- a number stands in a list, or does not
in-or-not : (x : ℕ) (l : List ℕ) → IsIn x l ⊎ (IsIn x l → ⊥)
in-or-not x [] = inr (λ h. h)
in-or-not x (y ∷ l) = go (ℕ_discrete x y) (in-or-not x l)
  where
    go : Dec (x ≡ y) → IsIn x l ⊎ (IsIn x l → ⊥) → IsIn x (y ∷ l) ⊎ (IsIn x (y ∷ l) → ⊥)
    go (yes e) rest = inl (inl e)
    go (no n) (inl i) = inl (inr i)
    go (no n) (inr m) = inr (λ h. ⊎_elim n m h)

-- ---- tables without used records

-- a part of a cleared table
part-zero : (size part i : ℕ) → take part (cleared size) ! i ≡ 0
part-zero size zero i = refl
part-zero zero (suc part) i = refl
part-zero (suc size) (suc part) zero = refl
part-zero (suc size) (suc part) (suc i) = part-zero size part i

pub none-cleared : (size part : ℕ) → NoneUsed (take part (cleared size))
unfolding is_marked
none-cleared size part node = rw (part-zero size part (leaf_size * node))

-- ---- leaves of different nodes in a table without used records

module _ (nodes : ℕ) (leaves : List Leaf) (fit : AllInTable nodes leaves) (apart : Distinct (leaf_nodes leaves))
    (empty : List ℕ) (sized : Sized nodes empty) (none : NoneUsed empty)
  where
    abbrev table : List ℕ
    table = put_leaves empty leaves

    own : (l : Leaf) → IsIn l leaves → record_at table l.node ≡ 1 ∷ matrix_words l.carried
    own = all_own nodes empty sized leaves fit apart

    marks-leaf : (n : ℕ) → IsIn n (leaf_nodes (ascending leaves)) → T (is_marked table n) × (n < nodes)
    marks-leaf n h =
        let (l, i, e) = of_map (λ (l : Leaf). l.node) n (ascending leaves) h in
        let there = of-ascending l leaves i in
        rw (e, marked table l.node _ (own l there)) (tt, (fit l there).listed)

    -- a used record is that of a leaf
    pub used-leaf : (n : ℕ) → T (is_marked (put_leaves empty leaves) n) → IsIn n (leaf_nodes leaves)
    used-leaf n t = ⊎_elim (λ i. i) absent (in-or-not n (leaf_nodes leaves))
      where
        absent : (IsIn n (leaf_nodes leaves) → ⊥) → IsIn n (leaf_nodes leaves)
        absent m =
            let blank : is_marked table n ≡ false =
            marked-same table empty n (all-other nodes empty sized leaves fit n m) ∙ none n in
            absurd (rw blank at t)

    is_leaf : (n : ℕ) → T (is_marked table n) → IsIn n (leaf_nodes (ascending leaves))
    is_leaf n t =
        let (l, j, e) = of_map (λ (l : Leaf). l.node) n leaves (used-leaf n t) in
        rw e (in_map (λ (l : Leaf). l.node) l (ascending leaves) (in-ascending l leaves j))

    nodes-listed : select (is_marked table) (up_from 0 nodes) ≡ leaf_nodes (ascending leaves)
    nodes-listed =
        selected-rising (is_marked table) 0 nodes (leaf_nodes (ascending leaves))
        (rising-nodes (ascending leaves) (ascending-rising leaves apart))
        (λ x i. omega (arith, (marks-leaf x i).1)) (λ x i. (marks-leaf x i).0)
        (λ x h k. is_leaf x)

    words-listed : (l : Leaf) → IsIn l (ascending leaves) → listed_at table l.node ≡ leaf_words l
    unfolding leaf_words
    words-listed l i = listed-as table l.node _ (own l (of-ascending l leaves i))

    pub all_listed : listed (put_leaves empty leaves) ≡ concat_map leaf_words (ascending leaves)
    unfolding listed
    all_listed =
        let count : length table / leaf_size ≡ nodes = omega (arith, all-length nodes empty sized leaves fit) in
        ap (λ (n : ℕ). concat_map (listed_at table) (select (is_marked table) (up_from 0 n))) count
        ∙ ap (concat_map (listed_at table)) nodes-listed
        ∙ concat_map-map (listed_at table) (λ (l : Leaf). l.node) (ascending leaves)
        ∙ concat_map-same _ leaf_words (ascending leaves) words-listed
