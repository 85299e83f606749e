-- Laws about how often nodes are named: the counts that the code keeps are those of the names so far, in any
-- order, and the first count that is not 1 is that of the first orphan.
use Rattle.std.specs.Prelude.{◌≡◌, List, [], ◌∷◌, ◌++◌, map, Bool, true, false, cond, not, ◌&&◌, T, ltb, eqb, take, replicate, Option, Some, None, is_some, unwrap_or}
use Rattle.std.specs.List.{position_or_len}
use Rattle.std.proofs.Math.Path.{refl, sym, ap}
use Rattle.std.proofs.Common.{◌∙◌, subst, append-nil, zero-add, arith, add-one, length-append, length-set, ext_get_or, get_or-set_same, get_or-take, length-take-le}
use Prim.Native.Nat.{ℕ, zero, suc, ◌+◌, ◌*◌, ◌≤◌, ◌<◌, min}
use Rattle.std.proofs.Math.Decide.{ℕ_discrete}
use Rattle.std.proofs.Math.ListN.{length, set, drop}
use Rattle.std.proofs.lemmas.List.{length-replicate, get_or-replicate, set-get_or}
use Rattle.std.proofs.Math.Seq.{append_snoc, get_or-set_other}
use borrow.Author.Tests.{lt-ltb, le-ltb, eq-eqb, ne_eqb, ltb-true, ltb-false}
use Rattle.definitions.specs.Lists.{◌!◌, select, concat_map, up_from, occurrences}
use Rattle.definitions.specs.BookLines.{TreeNode, question, leaf, children_of}
use Rattle.definitions.specs.BookReading.{orphans}
use Rattle.definitions.proofs.Laws.Lists.Tests.{by-test}
use Rattle.definitions.proofs.Laws.Lists.Lists.{map-up_from-length, map-up_from-at}
use Rattle.definitions.proofs.Laws.Lists.Occurrences.{occurrences-append, occurrences-least}
use Rattle.tables.specs.Naming.{counts_of, named_again, named_all, first_misnamed, misnamed_place, all_names}

-- ---- how often a number stands in a list

-- one more name counts one for that node, and nothing for the others
named-same : (x : ℕ) (names : List ℕ) → occurrences x (names ++ (x ∷ [])) ≡ suc (occurrences x names)
unfolding occurrences
named-same x names = occurrences-append x names (x ∷ []) ∙ rw (eq-eqb x x refl) (add-one _)

named_other : (x y : ℕ) (names : List ℕ) → (x ≡ y → ⊥)
    → occurrences x (names ++ (y ∷ [])) ≡ occurrences x names
unfolding occurrences
named_other x y names h = occurrences-append x names (y ∷ []) ∙ rw (ne_eqb x y h) (omega arith)

-- ---- the counts of names

pub counts-length : (nodes : ℕ) (names : List ℕ) → length (counts_of nodes names) ≡ nodes
unfolding counts_of
counts-length nodes names = map-up_from-length (λ node. occurrences node names) 0 nodes

counts-at : (nodes : ℕ) (names : List ℕ) (node : ℕ) → node < nodes
    → counts_of nodes names ! node ≡ occurrences node names
unfolding counts_of
counts-at nodes names node h =
    map-up_from-at (λ node. occurrences node names) 0 nodes node node h (omega arith)

-- a list that has them is the counts
counts_same : (nodes : ℕ) (counts names : List ℕ) → length counts ≡ nodes
    → ((node : ℕ) → node < nodes → counts ! node ≡ occurrences node names) → counts ≡ counts_of nodes names
counts_same nodes counts names e h =
    ext_get_or 0 counts (counts_of nodes names) (e ∙ sym (counts-length nodes names))
    (λ node k. h node (omega arith) ∙ sym (counts-at nodes names node (omega arith)))

pub counts-none : (nodes : ℕ) → counts_of nodes [] ≡ replicate nodes 0
unfolding occurrences
counts-none nodes =
    sym (counts_same nodes (replicate nodes 0) [] (length-replicate nodes 0)
    (λ node h. get_or-replicate nodes node 0 0 h))

-- the first of them
counts-take : (nodes size : ℕ) (names : List ℕ) → nodes ≤ size
    → take nodes (counts_of size names) ≡ counts_of nodes names
counts-take nodes size names h =
    let size_is = counts-length size names in
    counts_same nodes (take nodes (counts_of size names)) names
    (length-take-le nodes (counts_of size names) (omega arith))
    (λ node k. get_or-take nodes (counts_of size names) node 0 k ∙ counts-at size names node (omega arith))

-- ---- one more naming

module _ (nodes : ℕ) (names : List ℕ) (node : ℕ) where
  abbrev counts : List ℕ
  counts = counts_of nodes names

  named_in : node < nodes → length names < 4294967295
      → named_again counts node ≡ counts_of nodes (names ++ (node ∷ []))
  unfolding named_again
  named_in h few =
      let known : length counts ≡ nodes = counts-length nodes names in
      let count : counts ! node ≡ occurrences node names = counts-at nodes names node h in
      let least = occurrences-least node names in
      rw (lt-ltb node (length counts) (omega arith), lt-ltb (counts ! node) 4294967295 (omega arith))
      (counts_same nodes (set counts node (suc (counts ! node))) (names ++ (node ∷ []))
      (length-set counts node (suc (counts ! node)) ∙ known) (λ i k. each i k (ℕ_discrete i node)))
    where
      each : (i : ℕ) → i < nodes → Dec (i ≡ node)
          → set counts node (suc (counts ! node)) ! i ≡ occurrences i (names ++ (node ∷ []))
      each i k (yes e) =
          let known : length counts ≡ nodes = counts-length nodes names in
          rw e (get_or-set_same counts node (suc (counts ! node)) 0 (omega arith)
          ∙ ap suc (counts-at nodes names node h) ∙ sym (named-same node names))
      each i k (no e) =
          get_or-set_other counts node i (suc (counts ! node)) 0 e
          ∙ counts-at nodes names i k ∙ sym (named_other i node names e)

  named-out : nodes ≤ node → named_again counts node ≡ counts_of nodes (names ++ (node ∷ []))
  unfolding named_again
  named-out h =
      let known : length counts ≡ nodes = counts-length nodes names in
      rw (le-ltb node (length counts) (omega arith))
      (counts_same nodes counts (names ++ (node ∷ [])) known
      (λ i k. counts-at nodes names i k ∙ sym (named_other i node names (λ e. omega arith))))

  counts-again : length names < 4294967295
      → named_again (counts_of nodes names) node ≡ counts_of nodes (names ++ (node ∷ []))
  counts-again few =
      by-test (ltb node nodes) (λ e. named_in (ltb-true node nodes e) few)
      (λ e. named-out (ltb-false node nodes e))

-- the names one after the other
pub counts-named : (nodes : ℕ) (names more : List ℕ) → length names + length more < 4294967295
    → named_all (counts_of nodes names) more ≡ counts_of nodes (names ++ more)
unfolding named_all
counts-named nodes names [] h = ap (counts_of nodes) (sym (append-nil names))
counts-named nodes names (node ∷ more) h =
    rw (counts-again nodes names node (omega arith))
    (counts-named nodes (names ++ (node ∷ [])) more (rw length-append (omega arith))
    ∙ ap (counts_of nodes) (append_snoc names node more))

-- two lists of names one after the other
pub named-append : (counts names more : List ℕ)
    → named_all counts (names ++ more) ≡ named_all (named_all counts names) more
unfolding named_all
named-append counts [] more = refl
named-append counts (node ∷ names) more = named-append (named_again counts node) names more

-- ---- a naming, as the code makes it

pub again-out : (counts : List ℕ) (node : ℕ) → length counts ≤ node → counts ≡ named_again counts node
unfolding named_again
again-out counts node h = rw (le-ltb node (length counts) h)

pub again-capped : (counts : List ℕ) (node : ℕ) → node < length counts → counts ! node ≤ 4294967295
    → set counts node (min (counts ! node + 1) 4294967295) ≡ named_again counts node
unfolding named_again
again-capped counts node h fits =
    by-test (ltb (counts ! node) 4294967295)
    (λ e. rw (lt-ltb node (length counts) h, e) (put (omega (arith, ltb-true _ _ e))))
    (λ e. rw (lt-ltb node (length counts) h, e)
    (put {next = counts ! node} (omega (arith, ltb-false _ _ e)) ∙ set-get_or counts node 0))
  where
    put : {count next : ℕ} → count ≡ next → set counts node count ≡ set counts node next
    put e = ap (set counts node) e

pub again-length : (counts : List ℕ) (node : ℕ) → length (named_again counts node) ≡ length counts
unfolding named_again
again-length counts node =
    by-test (ltb node (length counts) && ltb (counts ! node) 4294967295)
    (λ e. rw e (length-set counts node (suc (counts ! node)))) (λ e. rw e)

pub named-length : (counts names : List ℕ) → length (named_all counts names) ≡ length counts
unfolding named_all
named-length counts [] = refl
named-length counts (node ∷ names) = named-length (named_again counts node) names ∙ again-length counts node

-- ---- the first count that is not 1

misnamed-least : (counts : List ℕ) → first_misnamed counts ≤ length counts
unfolding first_misnamed
misnamed-least [] = omega arith
misnamed-least (count ∷ counts) =
    let rest = misnamed-least counts in
    by-test (eqb count 1) (λ e. rw e (omega arith)) (λ e. rw e (omega arith))

-- the place that the code finds, where there is one, is that of the first
misnamed-length : (counts : List ℕ) → position_or_len (λ count. not (eqb count 1)) counts ≡ first_misnamed counts
unfolding first_misnamed
misnamed-length [] = refl
misnamed-length (count ∷ counts) =
    by-test (eqb count 1) (λ e. rw e (omega (arith, misnamed-length counts))) (λ e. rw e)

place-is : (counts : List ℕ)
    → misnamed_place counts
    ≡ cond (ltb (first_misnamed counts) (length counts)) (Some (first_misnamed counts)) None
place-is counts = rw misnamed-length

pub misnamed-some : (counts : List ℕ) {node : ℕ} → misnamed_place counts ≡ Some node
    → (node ≡ first_misnamed counts) × (node < length counts)
misnamed-some counts {node} e =
    by-test (ltb (first_misnamed counts) (length counts))
    (λ t. let same : first_misnamed counts ≡ node = ap (λ o. unwrap_or o 0) (sym (rw t at (place-is counts)) ∙ e) in
    (sym same, omega (arith, same, ltb-true _ _ t)))
    (λ t. absurd (subst T (sym (ap is_some (sym (rw t at (place-is counts)) ∙ e))) tt))

pub misnamed-none : (counts : List ℕ) → misnamed_place counts ≡ None → first_misnamed counts ≡ length counts
misnamed-none counts e =
    by-test (ltb (first_misnamed counts) (length counts))
    (λ t. absurd (subst T (ap is_some (sym (rw t at (place-is counts)) ∙ e)) tt))
    (λ t. omega (arith, ltb-false _ _ t, misnamed-least counts))

-- whether there is none
pub misnamed-test : (counts : List ℕ) {none : Bool} → is_some (misnamed_place counts) ≡ not none
    → none ≡ eqb (first_misnamed counts) (length counts)
misnamed-test counts {none} e =
    by-test none
    (λ t. rw t (sym (eq-eqb _ _ (misnamed-none counts (gone _ (e ∙ rw t))))))
    (λ t. rw t (sym (ne_eqb _ _ (λ same. below same (e ∙ rw t)))))
  where
    gone : (o : Option ℕ) → is_some o ≡ false → o ≡ None
    gone None e = refl
    gone (Some x) e = absurd (subst T e tt)

    below : first_misnamed counts ≡ length counts → is_some (misnamed_place counts) ≡ true → ⊥
    below same e =
        let none : misnamed_place counts ≡ None = place-is counts ∙ rw (le-ltb (first_misnamed counts) (length counts) (omega (arith, same))) in
        subst T (sym e ∙ ap is_some none) tt

-- ---- the first orphan

-- the numbers from a on whose counts are not 1, and how far from a the first of them is
module _ (f : ℕ → ℕ) where
  abbrev misnamed : (a n : ℕ) → List ℕ
  misnamed a n = select (λ node. not (eqb (f node) 1)) (up_from a n)

  abbrev lowest : (a n : ℕ) → ℕ
  lowest a n = first_misnamed (map f (up_from a n))

  none-misnamed : (a n : ℕ) → lowest a n ≡ n → misnamed a n ≡ []
  unfolding select up_from first_misnamed
  none-misnamed a zero e = refl
  none-misnamed a (suc n) e =
      by-test (eqb (f a) 1)
      (λ t. rw t (none-misnamed (suc a) n (omega (arith, rw t at e))))
      (λ t. absurd (omega (arith, rw t at e)))

  some-misnamed : (a n : ℕ) → lowest a n < n → misnamed a n ≡ (a + lowest a n) ∷ drop 1 (misnamed a n)
  unfolding select up_from first_misnamed
  some-misnamed a zero h = absurd (omega arith)
  some-misnamed a (suc n) h =
      by-test (eqb (f a) 1)
      (λ t. rw t (some-misnamed (suc a) n (omega (arith, rw t at h))
      ∙ ap (λ (x : ℕ). x ∷ drop 1 (misnamed (suc a) n)) {x = suc a + lowest (suc a) n}
      {y = a + suc (lowest (suc a) n)} (omega arith)))
      (λ t. rw t (ap (λ (x : ℕ). x ∷ misnamed (suc a) n) {x = a} {y = a + 0} (omega arith)))

-- the lowest node that is not named once, by the counts; one past the last where there is none
abbrev pub first_orphan : List TreeNode → (roots : List ℕ) → (size : ℕ) → ℕ
first_orphan nodes roots size = first_misnamed (take (length nodes) (counts_of size (all_names nodes roots)))

module _ (nodes : List TreeNode) (roots : List ℕ) (size : ℕ) (room : length nodes ≤ size) where
  pub orphan-least : first_orphan nodes roots size ≤ length nodes
  orphan-least =
      rw (counts-take (length nodes) size (all_names nodes roots) room)
      (omega (
        arith,
        misnamed-least (counts_of (length nodes) (all_names nodes roots)),
        counts-length (length nodes) (all_names nodes roots),
      ))

  pub orphans-none : first_orphan nodes roots size ≡ length nodes → orphans nodes roots ≡ []
  unfolding orphans counts_of
  orphans-none e =
      none-misnamed (λ node. occurrences node (all_names nodes roots)) 0 (length nodes)
      (rw (counts-take (length nodes) size (all_names nodes roots) room) at e)

  pub orphans-some : first_orphan nodes roots size < length nodes
      → orphans nodes roots ≡ first_orphan nodes roots size ∷ drop 1 (orphans nodes roots)
  unfolding orphans counts_of
  orphans-some h =
      let first = counts-take (length nodes) size (all_names nodes roots) room in
      some-misnamed (λ node. occurrences node (all_names nodes roots)) 0 (length nodes) (rw first at h)
      ∙ rw (first, zero-add)

  -- no orphan, by whether the first is one past the last
  pub orphans-test : eqb (first_orphan nodes roots size) (length nodes) ≡ eqb (length (orphans nodes roots)) 0
  orphans-test =
      let first : ℕ = first_orphan nodes roots size in
      let least : first ≤ length nodes = orphan-least in
      by-test (ltb first (length nodes))
      (λ e. let less : first < length nodes = ltb-true first (length nodes) e in
      rw (ne_eqb first (length nodes) (λ same. omega arith), orphans-some less)
      (sym (ne_eqb (suc (length (drop 1 (orphans nodes roots)))) 0 (λ same. omega arith))))
      (λ e. let last : first ≡ length nodes = omega (arith, ltb-false first (length nodes) e) in
      rw (eq-eqb first (length nodes) last, orphans-none last))

-- ---- how many names there are

children-few : (node : TreeNode) → length (children_of node) ≤ 2
unfolding children_of
children-few (question asked yes_node no_node) = omega arith
children-few (leaf model) = omega arith

pub children-length : (nodes : List TreeNode) → length (concat_map children_of nodes) ≤ 2 * length nodes
unfolding concat_map
children-length [] = omega arith
children-length (node ∷ nodes) =
    rw length-append (omega (arith, children-few node, children-length nodes))
