-- Laws about an element more at the end of the table and at the front of its chain: the table is linked again.
-- And an empty table is linked by cleared words.
use Rattle.std.specs.Prelude.{◌≡◌, refl, List, [], ◌∷◌, ◌++◌, ℕ, ◌+◌, ◌*◌, ◌≤◌, ◌<◌, ltb, eqb, length, set}
use Rattle.std.proofs.Common.{sym, ap, ◌∙◌, subst, arith, length-append, length-set, get_or-set_same, get_or-set_other, ltb-true, ltb-false, eqb-true}
use Rattle.std.proofs.lemmas.List.{length-replicate, get_or-replicate, get_or_at}
use Rattle.std.proofs.Math.ListN.{get_or-append}
use Rattle.std.proofs.lemmas.Bool.{eqb-false}
use Rattle.definitions.specs.Lists.{◌!◌, cleared}
use Rattle.definitions.proofs.Laws.Lists.Tests.{by-test}
use Rattle.growing.specs.Chains.{Code, head_of, head_at, Latest, Linked, linked_to}
use Rattle.growing.specs.Laws.Heads.{head-below}

-- ---- the latest place of a head

module _ {X : Type 0} (code : Code X) (heads : ℕ) where
  -- elements after the end change nothing
  latest-stays : (table more : List X) (head end place : ℕ) → end ≤ length table
      → Latest code heads table head end place → Latest code heads (table ++ more) head end place
  latest-stays table more head end place h latest = record {
    within = latest.within;
    own = λ i e. same i (omega (arith, latest.within, e)) ∙ latest.own i e;
    none_after = λ i k l e. latest.none_after i k l (sym (same i (omega (arith, l))) ∙ e);
  }
    where
      same : (i : ℕ) → i < length table → head_at code heads (table ++ more) i ≡ head_at code heads table i
      same i l = ap (λ y. head_of heads (code.key y)) (get_or-append table more code.nothing i l)

  -- nor does an element of another head
  latest-past : (table : List X) (head end place : ℕ) → (head_at code heads table end ≡ head → ⊥)
      → Latest code heads table head end place → Latest code heads table head (end + 1) place
  latest-past table head end place other latest = record {
    within = omega (arith, latest.within);
    own = latest.own;
    none_after = λ i k l e.
        by-test (ltb i end)
        (λ t. latest.none_after i k (ltb-true i end t) e)
        (λ t.
        let here : i ≡ end = omega (arith, l, ltb-false i end t) in
        other (subst (λ j. head_at code heads table j ≡ head) here e));
  }

  -- ---- no element

  no-chain : (table : List X) (head end place : ℕ) → place ≡ 0 → end ≡ 0
      → Latest code heads table head end place
  no-chain table head end place e f = record {
    within = omega arith;
    own = λ i g. absurd (omega (arith, e, g));
    none_after = λ i g h. absurd (omega (arith, f, h));
  }

  pub no-chains : (size : ℕ) → 0 < heads → 2 * heads ≤ size → Linked code heads (cleared size) []
  no-chains size h l = record {
    sized = rw (length-replicate {A = ℕ} size 0) l;
    few = h;
    firsts = λ head b.
        let none : cleared size ! head ≡ 0 = get_or-replicate {A = ℕ} size head 0 0 (omega arith) in
        no-chain [] head 0 (cleared size ! head) none refl;
    nexts = λ i b. absurd (omega arith);
  }

-- ---- an element more

module _ {X : Type 0} {code : Code X} {heads : ℕ} {chains : List ℕ} {table : List X}
    (linked : Linked code heads chains table) (x : X) (room : length table + 1 < heads) where
  abbrev n : ℕ
  n = length table

  abbrev head : ℕ
  head = head_of heads (code.key x)

  abbrev grown : List X
  grown = table ++ (x ∷ [])

  abbrev first : List ℕ
  first = set chains (heads + n) (chains ! head)

  abbrev chained : List ℕ
  chained = set first head (n + 1)

  size : length grown ≡ n + 1
  size = length-append table (x ∷ [])

  last : head_at code heads grown n ≡ head
  last = ap (λ y. head_of heads (code.key y)) (get_or_at table x [] code.nothing n refl)

  first-size : length first ≡ length chains
  first-size = length-set chains (heads + n) (chains ! head)

  below : head < heads
  below = head-below (code.key x) (omega arith)

  -- what stands in the chains
  head-own : chained ! head ≡ n + 1
  head-own = get_or-set_same first head (n + 1) 0 (omega (arith, first-size, linked.sized, below))

  elsewhere : (i : ℕ) → (i ≡ head → ⊥) → (i ≡ heads + n → ⊥) → chained ! i ≡ chains ! i
  elsewhere i f g =
      get_or-set_other first head i (n + 1) 0 f ∙ get_or-set_other chains (heads + n) i (chains ! head) 0 g

  next-own : chained ! (heads + n) ≡ chains ! head
  next-own =
      get_or-set_other first head (heads + n) (n + 1) 0 (λ e. omega (arith, e, below))
      ∙ get_or-set_same chains (heads + n) (chains ! head) 0 (omega (arith, linked.sized))

  firsts_after : (k : ℕ) → k < heads → Latest code heads grown k (n + 1) (chained ! k)
  firsts_after k h = by-test (eqb k head) (λ t. at_own (eqb-true k head t)) (λ t. at_other (eqb-false k head t))
    where
      at_own : k ≡ head → Latest code heads grown k (n + 1) (chained ! k)
      at_own e =
          subst (λ j. Latest code heads grown j (n + 1) (chained ! j)) (sym e)
          (subst (Latest code heads grown head (n + 1)) (sym head-own) record {
            within = omega arith;
            own = λ i f.
                let here : n ≡ i = omega (arith, f) in
                subst (λ j. head_at code heads grown j ≡ head) here last;
            none_after = λ i f l. absurd (omega (arith, f, l));
          })

      at_other : (k ≡ head → ⊥) → Latest code heads grown k (n + 1) (chained ! k)
      at_other f =
          subst (Latest code heads grown k (n + 1)) (sym (elsewhere k f (λ e. omega (arith, e, h))))
          (latest-past code heads grown k n (chains ! k) (λ e. f (sym e ∙ last))
          (latest-stays code heads table (x ∷ []) k n (chains ! k) (omega arith) (linked.firsts k h)))

  nexts-after : (i : ℕ) → i < n + 1
      → Latest code heads grown (head_at code heads grown i) i (chained ! (heads + i))
  nexts-after i h =
      by-test (ltb i n) (λ t. before (ltb-true i n t)) (λ t. here (omega (arith, h, ltb-false i n t)))
    where
      before : i < n → Latest code heads grown (head_at code heads grown i) i (chained ! (heads + i))
      before l =
          let same : head_at code heads table i ≡ head_at code heads grown i =
          ap (λ y. head_of heads (code.key y)) (sym (get_or-append table (x ∷ []) code.nothing i l)) in
          let kept : chains ! (heads + i) ≡ chained ! (heads + i) =
          sym (elsewhere (heads + i) (λ e. omega (arith, e, below)) (λ e. omega (arith, e, l))) in
          subst (Latest code heads grown (head_at code heads grown i) i) kept
          (subst (λ k. Latest code heads grown k i (chains ! (heads + i))) same
          (latest-stays code heads table (x ∷ []) _ i (chains ! (heads + i)) (omega (arith, l))
          (linked.nexts i l)))

      here : i ≡ n → Latest code heads grown (head_at code heads grown i) i (chained ! (heads + i))
      here e =
          subst (λ j. Latest code heads grown (head_at code heads grown j) j (chained ! (heads + j))) (sym e)
          (subst (Latest code heads grown (head_at code heads grown n) n) (sym next-own)
          (subst (λ k. Latest code heads grown k n (chains ! head)) (sym last)
          (latest-stays code heads table (x ∷ []) head n (chains ! head) (omega arith)
          (linked.firsts head below))))

  pub chained-length : length (linked_to heads chains (length table) (code.key x)) ≡ length chains
  chained-length = length-set first head (n + 1) ∙ first-size

  pub linked-more : Linked code heads (linked_to heads chains (length table) (code.key x)) (table ++ (x ∷ []))
  linked-more = record {
    sized = omega (arith, chained-length, linked.sized);
    few = omega (arith, size);
    firsts = λ k h. subst (λ j. Latest code heads grown k j (chained ! k)) (sym size) (firsts_after k h);
    nexts = λ i h. nexts-after i (omega (arith, h, size));
  }
