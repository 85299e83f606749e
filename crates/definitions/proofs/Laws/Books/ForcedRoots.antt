-- Roots that are known with their plain phones: the roots in force are nodes. A plain phone is no boundary phone, so
-- its own roots are given. The laws about books in tables, read or lent, rest on it.
use Rattle.std.specs.Prelude.{◌≡◌, List, T, leb, ltb, eqb, length}
use Rattle.std.proofs.Common.{sym, subst, ⊎_elim, div-lt_iff_lt-mul, mod-lt, arith, lt→ltb, leb→le, eqb→eq}
use Prim.Native.Nat.{ℕ, ◌+◌, ◌-◌, ◌*◌, ◌/◌, ◌%◌, ◌≤◌, ◌<◌}
use borrow.Author.Tests.{eqb-true, eqb-false}
use Rattle.definitions.specs.declared.Header.{Header}
use Rattle.definitions.specs.Lists.{◌!◌, every, up_from}
use Rattle.definitions.specs.BookLines.{root_place}
use Rattle.definitions.specs.Tables.{Contents, tree_phone, roots_in_force}
use Rattle.definitions.specs.ForeignTables.{roots_known, plain_known, plains_known}
use Rattle.definitions.proofs.Laws.Lists.Tests.{T_and, by-test}
use Rattle.definitions.proofs.Laws.Books.PhoneRoots.{roots-parts}
use Rattle.definitions.proofs.Laws.Lists.Members.{in-every, every_in, of_map, of-up_from, in-at}

module _ (header : Header) (plains roots : List ℕ) (wide : length plains ≡ header.phones)
    (plain : T (plains_known header plains)) (whole : T (roots_known header plains roots))
  where
    -- the roots of a phone that is no boundary phone are nodes
    own-listed : (phone state : ℕ) → 1 ≤ phone → phone ≤ header.phones → plains ! (phone - 1) ≡ 0
        → 1 ≤ state → state ≤ header.states → T (ltb (roots ! root_place header.states phone state) header.nodes)
    own-listed phone state p P inner s S =
        ⊎_elim (λ all. lt→ltb _ _ (all state s S)) (λ (edge, none). absurd (edge inner))
        ((roots-parts header plains roots).0 whole phone p P)

    -- the phone whose trees a phone has is a phone, and no boundary phone
    pub record Plain (phone : ℕ) : Type 0 where
      pub low : 1 ≤ tree_phone plains phone
      pub high : tree_phone plains phone ≤ header.phones
      pub inner : plains ! (tree_phone plains phone - 1) ≡ 0

    pub tree_plain : (phone : ℕ) → 1 ≤ phone → phone ≤ header.phones → Plain phone
    unfolding tree_phone plains_known plain_known
    tree_plain phone p P = by-test (eqb word 0)
        (λ e. record {
          low = rw (tree_phone, e) p;
          high = rw (tree_phone, e) P;
          inner = rw (tree_phone, e) (eqb-true word 0 e);
        })
        (λ e.
        let known = in-every (plain_known header plains) plains
        ((T_and (eqb (plains ! 0) 0) (every (plain_known header plains) plains)).0 plain).1 word
        (in-at plains (phone - 1) 0 (omega (arith, wide, p, P))) in
        let (within, inner) = (T_and (leb word header.phones) (eqb (plains ! (word - 1)) 0)).0 known in
        record {
          low = rw (tree_phone, e) (omega (arith, eqb-false word 0 e));
          high = rw (tree_phone, e) (leb→le _ _ within);
          inner = rw (tree_phone, e) (eqb→eq _ 0 inner);
        })
      where
        word : ℕ
        word = plains ! (phone - 1)

-- so the roots in force are nodes
pub force-listed : (header : Header) (contents : Contents) → contents.states ≡ header.states
    → contents.phones ≡ header.phones → length contents.plains ≡ header.phones → 1 ≤ header.states
    → T (plains_known header contents.plains) → T (roots_known header contents.plains contents.roots)
    → T (every (λ root. ltb root header.nodes) (roots_in_force contents))
unfolding roots_in_force
force-listed header contents same-states same-phones wide low plain whole =
    every_in (λ root. ltb root header.nodes) (roots_in_force contents) (λ root i.
    let (place, among, e) = of_map force root (up_from 0 (contents.phones * contents.states)) i in
    rw e (at_place place (of-up_from 0 (contents.phones * contents.states) place among).1))
  where
    states : ℕ
    states = contents.states

    force : (place : ℕ) → ℕ
    force place =
        contents.roots ! root_place states (tree_phone contents.plains (place / states + 1)) (place % states + 1)

    at_place : (place : ℕ) → place < 0 + contents.phones * states → T (ltb (force place) header.nodes)
    at_place place less =
        let some_state : 0 < states = omega (arith, same-states, low) in
        let phone : place / states < contents.phones = (div-lt_iff_lt-mul some_state).1 (omega (arith, less)) in
        let trees = tree_plain header contents.plains contents.roots wide plain whole (place / states + 1)
        (omega arith) (omega (arith, phone, same-phones)) in
        let q : ℕ = tree_phone contents.plains (place / states + 1) in
        subst (λ n. T (ltb (contents.roots ! root_place n q (place % states + 1)) header.nodes)) (sym same-states)
        (own-listed header contents.plains contents.roots wide plain whole q (place % states + 1) trees.low
        trees.high trees.inner (omega arith) (omega (arith, mod-lt place some_state, same-states)))
