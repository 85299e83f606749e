-- Laws about the loop that lists the used records of a table and leaves none used: a record copied to its place
-- in the list, one more record seen, and all of them seen, where none is used outside the loop's nodes.
use Rattle.std.specs.Prelude.{◌≡◌, refl, ◌≢◌, ltb, eqb, set}
use Rattle.std.proofs.Math.Path.{sym, ap}
use Rattle.std.proofs.Common.{◌∙◌, zero-add, add-zero, get_or-drop, get_or-set_other}
use mathlib.Core.List.{List, [], ◌∷◌, ◌++◌, append-nil}
use Rattle.std.proofs.Math.Bool.{false}
use Prim.Native.Nat.{ℕ, ◌+◌, ◌-◌, ◌*◌, ◌/◌, ◌≤◌, ◌<◌}
use native.Mathlib.Omega.{arith}
use Rattle.std.proofs.Math.ListN.{length, take, drop, length-append, length-drop, length-set}
use Rattle.std.proofs.Math.Seq.{length-take-le, take_at, drop-drop, get_or-set_same, drop-set-lt}
use borrow.Author.Tests.{eq-eqb, ne_eqb, eqb-true, eqb-false, ltb-true, ltb-false}
use Rattle.definitions.specs.Lists.{◌!◌, concat_map, up_from, select}
use Rattle.definitions.specs.Matrices.{most_columns}
use Rattle.definitions.proofs.Laws.Lists.Lists.{concat_map-append, up_from-snoc, up_from-parts}
use Rattle.definitions.proofs.Laws.Lists.Members.{of-up_from}
use Rattle.definitions.proofs.Laws.Lists.Selected.{select-here, select-past, select-append, select-none}
use Rattle.definitions.proofs.Laws.Lists.Tests.{by-test}
use Rattle.matrix.specs.Words.{overwritten, first_seven}
use Rattle.matrix.specs.Laws.Words.{seven-there, overwritten-there}
use Rattle.leafsets.specs.Leaves.{leaf_size, is_marked, listed_at, listed, UsedWithin, Listing}

-- ---- a record copied

module _ (table : List ℕ) (node : ℕ) (inside : leaf_size * node + leaf_size ≤ length table) where
  words-sized : length (take most_columns (drop (leaf_size * node + 1) table)) ≡ most_columns
  words-sized =
      length-take-le most_columns (drop (leaf_size * node + 1) table)
      (omega (arith, length-drop (leaf_size * node + 1) table))

  listed-sized : length (listed_at table node) ≡ leaf_size
  unfolding listed_at
  listed-sized = omega (arith, words-sized)

  pub leaf-copied : (list : List ℕ) (place : ℕ) {columns : List ℕ} → leaf_size * place + leaf_size ≤ length list
      → columns ≡ first_seven (drop (leaf_size * node + 1) table)
      → overwritten list (leaf_size * place) (node ∷ columns)
      ≡ take (leaf_size * place) list ++ listed_at table node ++ drop (leaf_size * place + leaf_size) list
  unfolding listed_at
  leaf-copied list place room e =
      ap (λ (l : List ℕ). overwritten list (leaf_size * place) (node ∷ l))
      (e ∙ seven-there table (leaf_size * node + 1) (omega arith))
      ∙ overwritten-there list (leaf_size * place) (listed_at table node) listed-sized room

-- ---- one more record seen

-- the nodes before one whose records are used
unfoldable pub used_before : (table : List ℕ) → (node : ℕ) → List ℕ
used_before table node = select (is_marked table) (up_from 0 node)

-- a table and a list, before the loop t and d: the records before a node that were used are listed and no
-- longer used, those from the node on are as before
pub record Collected (t d : List ℕ) (node count : ℕ) (table list : List ℕ) : Type 0 where
  pub within : node ≤ length t / leaf_size
  pub fewer : count ≤ node
  pub sized : length list ≡ length d
  pub holds : take (leaf_size * count) list ≡ concat_map (listed_at t) (used_before t node)
  pub same : length table ≡ length t
  pub ahead : drop (leaf_size * node) table ≡ drop (leaf_size * node) t
  pub behind : (n : ℕ) → n < node → is_marked table n ≡ false

module _ (t d : List ℕ) (room : length t ≤ length d) (node count : ℕ) (table list : List ℕ)
    (p : Collected t d node count table list)
  where
    -- the words from the node on are as before
    ahead-word : (more : ℕ) → table ! (leaf_size * node + more) ≡ t ! (leaf_size * node + more)
    ahead-word more =
        sym (get_or-drop (leaf_size * node) table more 0)
        ∙ ap (λ (l : List ℕ). l ! more) p.ahead ∙ get_or-drop (leaf_size * node) t more 0

    ahead-mark : table ! (leaf_size * node) ≡ t ! (leaf_size * node)
    ahead-mark = rw add-zero at (ahead-word 0)

    ahead-listed : listed_at table node ≡ listed_at t node
    unfolding listed_at
    ahead-listed =
        ap (λ (l : List ℕ). node ∷ take most_columns l)
        (sym (drop-drop 1 (leaf_size * node) table) ∙ ap (drop 1) p.ahead ∙ drop-drop 1 (leaf_size * node) t)

    ahead-next : drop (leaf_size * (node + 1)) table ≡ drop (leaf_size * (node + 1)) t
    ahead-next =
        let place : leaf_size * node + leaf_size ≡ leaf_size * (node + 1) = omega arith in
        rw (← place, ← drop-drop leaf_size (leaf_size * node) table, ← drop-drop leaf_size (leaf_size * node) t)
        (ap (drop leaf_size) p.ahead)

    module _ (h : node < length t / leaf_size) where
      pub node-inside : leaf_size * node + leaf_size ≤ length table
      node-inside = omega (arith, p.same)

      pub place_inside : leaf_size * count + leaf_size ≤ length list
      place_inside = omega (arith, p.fewer, p.sized, p.same, node-inside)

      used-split : used_before t (node + 1) ≡ used_before t node ++ select (is_marked t) (node ∷ [])
      unfolding used_before
      used-split =
          ap (select (is_marked t)) (up_from-snoc 0 node ∙ rw zero-add)
          ∙ select-append (is_marked t) (up_from 0 node) (node ∷ [])

      words_more : (rest : List ℕ) → select (is_marked t) (node ∷ []) ≡ rest
          → concat_map (listed_at t) (used_before t (node + 1))
          ≡ take (leaf_size * count) list ++ concat_map (listed_at t) rest
      words_more rest e =
          ap (concat_map (listed_at t)) used-split
          ∙ concat_map-append (listed_at t) (used_before t node) _
          ∙ rw (e, p.holds)

      -- a used record is listed, and no longer used
      pub collected-more : (table ! (leaf_size * node) ≡ 0 → ⊥) → {fewer after : List ℕ}
          → fewer ≡ set table (leaf_size * node) 0
          → after
          ≡ take (leaf_size * count) list ++ listed_at table node ++ drop (leaf_size * count + leaf_size) list
          → Collected t d (node + 1) (count + 1) fewer after
      unfolding is_marked select concat_map
      collected-more used {fewer} {after} f e =
          let front : List ℕ = take (leaf_size * count) list in
          let new : List ℕ = listed_at table node in
          let rest : List ℕ = drop (leaf_size * count + leaf_size) list in
          let front-sized : length front ≡ leaf_size * count =
          length-take-le (leaf_size * count) list (omega (arith, place_inside)) in
          let new-sized = listed-sized table node node-inside in
          let both-sized : length (front ++ new) ≡ leaf_size * (count + 1) =
          length-append front new ∙ omega (arith, front-sized, new-sized) in
          let whole : length after ≡ length list =
          ap length e ∙ length-append (front ++ new) rest
          ∙ omega (arith, both-sized, length-drop (leaf_size * count + leaf_size) list, place_inside) in
          let one : select (is_marked t) (node ∷ []) ≡ node ∷ [] =
          select-here (is_marked t) node []
          (rw (ne_eqb (t ! (leaf_size * node)) 0 (λ z. used (ahead-mark ∙ z)))) in
          record {
            within = omega arith;
            fewer = omega (arith, p.fewer);
            sized = whole ∙ p.sized;
            holds =
                ap (take (leaf_size * (count + 1))) e ∙ take_at (front ++ new) rest _ both-sized
                ∙ ap (λ (l : List ℕ). front ++ l) ahead-listed
                ∙ sym (words_more (node ∷ []) one ∙ ap (λ (l : List ℕ). front ++ l) (append-nil _));
            same = ap length f ∙ length-set table (leaf_size * node) 0 ∙ p.same;
            ahead =
                ap (drop (leaf_size * (node + 1))) f
                ∙ drop-set-lt (leaf_size * (node + 1)) table (leaf_size * node) 0 (omega arith) ∙ ahead-next;
            behind = λ n k. rw f (unmarked n k);
          }
        where
          unmarked : (n : ℕ) → n < node + 1 → is_marked (set table (leaf_size * node) 0) n ≡ false
          unmarked n k = by-test (eqb n node)
              (λ e. rw (eqb-true n node e, get_or-set_same table (leaf_size * node) 0 0 (omega (arith, node-inside))))
              (λ e.
              let other : leaf_size * n ≢ leaf_size * node = λ q. eqb-false n node e (omega arith) in
              rw (get_or-set_other table (leaf_size * node) (leaf_size * n) 0 0 other)
              (p.behind n (omega (arith, eqb-false n node e))))

      -- one that is not used is passed over
      pub collected-past : table ! (leaf_size * node) ≡ 0 → Collected t d (node + 1) count table list
      unfolding is_marked select concat_map
      collected-past unused =
          let none : select (is_marked t) (node ∷ []) ≡ [] =
          select-past (is_marked t) node []
          (rw (eq-eqb (t ! (leaf_size * node)) 0 (sym ahead-mark ∙ unused))) in
          record {
            within = omega arith;
            fewer = omega (arith, p.fewer);
            sized = p.sized;
            holds = sym (words_more [] none ∙ append-nil (take (leaf_size * count) list));
            same = p.same;
            ahead = ahead-next;
            behind = λ n k. by-test (eqb n node)
                (λ e. rw (eqb-true n node e, eq-eqb (table ! (leaf_size * node)) 0 unused))
                (λ e. p.behind n (omega (arith, eqb-false n node e)));
          }

-- ---- from the first node to the last

module _ (t d : List ℕ) (first last : ℕ) (used : UsedWithin first last t) where
  outside : (n : ℕ) → (first ≤ n → n ≤ last → ⊥) → is_marked t n ≡ false
  outside n beyond =
      by-test (is_marked t n) (λ e. let h = used n (rw e tt) in absurd (beyond h.0 h.1)) (λ e. e)

  pub collected-start : leaf_size * first ≤ length t → Collected t d first 0 t d
  unfolding used_before concat_map
  collected-start inside =
      let none : select (is_marked t) (up_from 0 first) ≡ [] =
      select-none (is_marked t) (up_from 0 first)
      (λ n i. outside n (λ h k. omega (arith, of-up_from 0 first n i))) in
      record {
        within = omega arith;
        fewer = omega arith;
        sized = refl;
        holds = rw none;
        same = refl;
        ahead = refl;
        behind = λ n h. outside n (λ k l. omega arith);
      }

  -- all are seen
  module _ (node count : ℕ) (table list : List ℕ) (p : Collected t d node count table list)
      (room : length t ≤ length d) (end : last < node)
    where
      later-none : select (is_marked t) (up_from node (length t / leaf_size - node)) ≡ []
      later-none =
          select-none (is_marked t) (up_from node (length t / leaf_size - node))
          (λ n i. outside n (λ h k. omega (arith, of-up_from node (length t / leaf_size - node) n i)))

      all-used : used_before t node ≡ select (is_marked t) (up_from 0 (length t / leaf_size))
      unfolding used_before
      all-used =
          let rest : ℕ = length t / leaf_size - node in
          let whole : node + rest ≡ length t / leaf_size = omega (arith, p.within) in
          sym (ap (λ (n : ℕ). select (is_marked t) (up_from 0 n)) (sym whole)
          ∙ ap (select (is_marked t)) (up_from-parts 0 node rest ∙ rw zero-add)
          ∙ select-append (is_marked t) (up_from 0 node) (up_from node rest)
          ∙ ap (λ (l : List ℕ). select (is_marked t) (up_from 0 node) ++ l) later-none
          ∙ append-nil (select (is_marked t) (up_from 0 node)))

      ahead_none : (n : ℕ) → node ≤ n → is_marked table n ≡ false
      unfolding is_marked
      ahead_none n h =
          let more : ℕ = leaf_size * n - leaf_size * node in
          let place : leaf_size * node + more ≡ leaf_size * n = omega arith in
          let word : table ! (leaf_size * n) ≡ t ! (leaf_size * n) =
          rw (← place) (ahead-word t d room node count table list p more) in
          rw word (outside n (λ k l. omega arith))

      pub collected-end : Listing (listed t) t d count table list
      unfolding listed
      collected-end = record {
        room = omega (arith, p.fewer, p.within, p.sized);
        holds = p.holds ∙ ap (concat_map (listed_at t)) all-used;
        list_sized = p.sized;
        table_sized = p.same;
        none = λ n. by-test (ltb n node) (λ e. p.behind n (ltb-true n node e))
            (λ e. ahead_none n (ltb-false n node e));
      }
