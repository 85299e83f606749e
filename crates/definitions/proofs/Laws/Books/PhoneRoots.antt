-- A phone's roots in tables that are known, as a fact: all of them are nodes, or it is a boundary phone and none of
-- them is given. The laws about written and read books and about the trees in force take it apart so.
use Rattle.std.specs.Prelude.{◌≡◌, ◌⊎◌, ◌↔◌, ◌≢◌, List, Bool, not, ◌&&◌, ℕ, ◌-◌, ◌≤◌, ◌<◌, T}
use Rattle.std.proofs.Math.Logic.{inl, inr, ⊎_elim}
use Rattle.std.proofs.Common.{arith, ne_eqb}
use Rattle.std.proofs.Math.Dec.{ltb, eqb, ltb→lt, lt→ltb, eqb→eq}
use Rattle.definitions.specs.declared.Header.{Header}
use Rattle.definitions.specs.Lists.{◌!◌, every, up_from}
use Rattle.definitions.specs.BookLines.{root_place, no_root}
use Rattle.definitions.specs.ForeignTables.{roots_of_phone, phone_known, roots_known}
use Rattle.definitions.proofs.Laws.Lists.Tests.{T_and, T-or, eq→eqb}
use Rattle.definitions.proofs.Laws.Lists.Members.{in-every, every_in, in_map, of_map, in-up_from, of-up_from}

module _ (header : Header) (plains roots : List ℕ) where
  -- the word of a phone's root for a state
  abbrev word : (phone state : ℕ) → ℕ
  word phone state = roots ! root_place header.states phone state

  -- what holds of the word of each state
  abbrev EachState : (P : ℕ → Type 0) → (phone : ℕ) → Type 0
  EachState P phone = (state : ℕ) → 1 ≤ state → state ≤ header.states → P (word phone state)

  abbrev pub AllNodes : (phone : ℕ) → Type 0
  AllNodes phone =
      (state : ℕ) → 1 ≤ state → state ≤ header.states
      → roots ! root_place header.states phone state < header.nodes

  abbrev pub NoneGiven : (phone : ℕ) → Type 0
  NoneGiven phone =
      (state : ℕ) → 1 ≤ state → state ≤ header.states
      → roots ! root_place header.states phone state ≡ no_root

  abbrev pub WholePhone : (phone : ℕ) → Type 0
  WholePhone phone = AllNodes phone ⊎ ((plains ! (phone - 1) ≢ 0) × NoneGiven phone)

  -- a test of each
  module _ (test : ℕ → Bool) (phone : ℕ) where
    each-passes : T (every test (roots_of_phone header.states roots phone)) → EachState (λ n. T (test n)) phone
    unfolding roots_of_phone
    each-passes t state low high =
        in-every test (roots_of_phone header.states roots phone) t (word phone state)
        (in_map (word phone) state (up_from 1 header.states)
        (in-up_from 1 header.states state low (omega (arith, high))))

    all_pass : EachState (λ n. T (test n)) phone → T (every test (roots_of_phone header.states roots phone))
    unfolding roots_of_phone
    all_pass each =
        every_in test (roots_of_phone header.states roots phone) (λ root i.
        let (state, among, e) = of_map (word phone) root (up_from 1 header.states) i in
        let (low, high) = of-up_from 1 header.states state among in
        rw e (each state low (omega (arith, high))))

  module _ (phone : ℕ) where
    abbrev own : List ℕ
    own = roots_of_phone header.states roots phone

    abbrev listed : Bool
    listed = every (λ root. ltb root header.nodes) own

    abbrev edged : Bool
    edged = not (eqb (plains ! (phone - 1)) 0)

    abbrev left : Bool
    left = every (λ root. eqb root no_root) own

    not-zero : T edged → plains ! (phone - 1) ≢ 0
    not-zero t e = absurd (rw e at t)

    pub phone-parts : T (phone_known header plains roots phone) ↔ WholePhone phone
    unfolding phone_known
    phone-parts = (
      λ t. ⊎_elim
          (λ all. inl (λ state low high.
          ltb→lt (word phone state) header.nodes
          (each-passes (λ root. ltb root header.nodes) phone all state low high)))
          (λ out.
          let (edge, none) = (T_and edged left).0 out in
          inr (
            not-zero edge,
            λ state low high.
                eqb→eq (word phone state) no_root (each-passes (λ root. eqb root no_root) phone none state low high),
          ))
          ((T-or listed (edged && left)).0 t),
      λ w. ⊎_elim
          (λ all. (T-or listed (edged && left)).1 (inl (all_pass (λ root. ltb root header.nodes) phone
          (λ state low high. lt→ltb (word phone state) header.nodes (all state low high)))))
          (λ (edge, none). (T-or listed (edged && left)).1 (inr ((T_and edged left).1 (
            rw (ne_eqb (plains ! (phone - 1)) 0 edge) tt,
            all_pass (λ root. eqb root no_root) phone
                (λ state low high. eq→eqb (word phone state) no_root (none state low high)),
          ))))
          w,
    )

  pub roots-parts : T (roots_known header plains roots)
      ↔ ((phone : ℕ) → 1 ≤ phone → phone ≤ header.phones → WholePhone phone)
  unfolding roots_known
  roots-parts = (
    λ t phone low high. (phone-parts phone).0
        (in-every (phone_known header plains roots) (up_from 1 header.phones) t phone
        (in-up_from 1 header.phones phone low (omega (arith, high)))),
    λ whole. every_in (phone_known header plains roots) (up_from 1 header.phones) (λ phone i.
        let (low, high) = of-up_from 1 header.phones phone i in
        (phone-parts phone).1 (whole phone low (omega (arith, high)))),
  )
