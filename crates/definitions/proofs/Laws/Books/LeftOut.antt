-- Laws about R lines that are left out: after lines in order, every place before the next one is settled. Its root is
-- given, or its phone is a boundary phone of which no root is given. The idea: what is left out are whole phones, so
-- all is said by phones and states, and places are compared only at the start of a phone. That reading leaves whole
-- phones, in TreesInForce, rests on it.
use Rattle.std.specs.Prelude.{◌≡◌, refl, ◌⊎◌, List, [], ◌∷◌, ◌++◌, map, Bool, ◌&&◌, ℕ, suc, ◌+◌, ◌-◌, ◌*◌, ◌/◌, ◌%◌, ◌≤◌, ◌<◌, T, ltb}
use Rattle.std.proofs.Common.{sym, ap, ap₂, ◌∙◌, subst, div-add-mod', div-lt_iff_lt-mul, arith, ltb→lt, eqb→eq, ltb-true, ltb-false}
use Rattle.std.proofs.Math.Logic.{inl, inr, ⊎_elim}
use Rattle.std.proofs.Math.Dec.{eqb}
use Rattle.std.proofs.Math.Arith.{digits_lt, digits_div, digits_mod}
use Rattle.definitions.specs.Lists.{◌!◌, every, up_from, IsIn}
use Rattle.definitions.specs.BookLines.{Root, root_place, next_place}
use Rattle.definitions.specs.BookReading.{left_out}
use Rattle.definitions.proofs.Laws.Lists.Tests.{T_and, T-or, by-test}
use Rattle.definitions.proofs.Laws.Lists.Lists.{map-up_from-at}
use Rattle.definitions.proofs.Laws.Lists.Members.{in_left, in_right, of-append, of-single, in-up_from, in-every}

-- ---- places

-- the place after the last root's
pub next_more : (states : ℕ) (roots : List Root) (r : Root)
    → next_place states (roots ++ (r ∷ [])) ≡ suc (root_place states r.phone r.state)
unfolding next_place
next_more states [] r = refl
next_more states (x ∷ []) r = refl
next_more states (x ∷ y ∷ roots) r = next_more states (y ∷ roots) r

-- a phone and a state of a book with so many states
pub record Spot (states phone state : ℕ) : Type 0 where
  pub phone_low : 1 ≤ phone
  pub state_low : 1 ≤ state
  pub state_high : state ≤ states

module _ {states phone state : ℕ} (s : Spot states phone state) where
  pub spot-phone : root_place states phone state / states ≡ phone - 1
  spot-phone =
      let low : state - 1 < states = omega (arith, s.state_low, s.state_high) in digits_div (phone - 1) low

  pub spot-state : root_place states phone state % states ≡ state - 1
  spot-state =
      let low : state - 1 < states = omega (arith, s.state_low, s.state_high) in digits_mod (phone - 1) low

-- one place is of one phone and state
pub same_spot : {states p s q t : ℕ} → Spot states p s → Spot states q t
    → root_place states p s ≡ root_place states q t → (p ≡ q) × (s ≡ t)
same_spot {states} a b e =
    let phones = sym (spot-phone a) ∙ ap (λ (n : ℕ). n / states) e ∙ spot-phone b in
    let states = sym (spot-state a) ∙ ap (λ (n : ℕ). n % states) e ∙ spot-state b in
    (omega (arith, a.phone_low, b.phone_low, phones), omega (arith, a.state_low, b.state_low, states))

-- ---- what is left out

-- whole phones from one place up to another, all of them boundary phones
pub record Gap (states : ℕ) (edge : ℕ → Bool) (from to : ℕ) : Type 0 where
  pub less : from < to
  pub from_whole : from % states ≡ 0
  pub to_whole : to % states ≡ 0
  pub between : (phone : ℕ) → from / states < phone → phone ≤ to / states → T (edge phone)

module _ (states : ℕ) (edge : ℕ → Bool) (from to : ℕ) where
  abbrev phones : List ℕ
  phones = up_from (from / states + 1) (to / states - from / states)

  gap_of : T (ltb from to && eqb (from % states) 0 && eqb (to % states) 0 && every edge phones)
      → Gap states edge from to
  gap_of h =
      let (first, all) = (T_and (ltb from to && eqb (from % states) 0 && eqb (to % states) 0)
      (every edge phones)).0 h in
      let (starts, ends) = (T_and (ltb from to && eqb (from % states) 0) (eqb (to % states) 0)).0 first in
      let (less, begins) = (T_and (ltb from to) (eqb (from % states) 0)).0 starts in
      record {
        less = ltb→lt from to less;
        from_whole = eqb→eq _ 0 begins;
        to_whole = eqb→eq _ 0 ends;
        between = λ phone low high.
            in-every edge phones all phone
            (in-up_from (from / states + 1) (to / states - from / states) phone (omega arith) (omega arith));
      }

  pub left_out_lem : T (left_out edge states from to) → (from ≡ to) ⊎ Gap states edge from to
  unfolding left_out
  left_out_lem t =
      ⊎_elim (λ e. inl (eqb→eq from to e)) (λ h. inr (gap_of h))
      ((T-or (eqb from to)
      (ltb from to && eqb (from % states) 0 && eqb (to % states) 0 && every edge phones)).0 t)

  pub left-reaches : T (left_out edge states from to) → from ≤ to
  left-reaches t = ⊎_elim (λ e. omega (arith, e)) (λ g. omega (arith, g.less)) (left_out_lem t)

-- a place among those of so many phones
pub spot-below : {states phones phone state : ℕ} → Spot states phone state → phone ≤ phones
    → root_place states phone state < phones * states
spot-below {states} {phones} {phone} {state} s high =
    digits_lt {q = phone - 1} {m = phones} {r = state - 1} {c = states} (omega (arith, s.phone_low, high))
    (omega (arith, s.state_low, s.state_high))

-- what the phone and state of each place give, at the place of these
pub at-spot : (f : (phone state : ℕ) → ℕ) {states phones phone state : ℕ} → Spot states phone state → phone ≤ phones
    → map (λ place. f (place / states + 1) (place % states + 1)) (up_from 0 (phones * states))
    ! root_place states phone state ≡ f phone state
at-spot f {states} {phones} {phone} {state} s high =
    let place : ℕ = root_place states phone state in
    let p : place / states + 1 ≡ phone = omega (arith, spot-phone s, s.phone_low) in
    let q : place % states + 1 ≡ state = omega (arith, spot-state s, s.state_low) in
    map-up_from-at (λ place. f (place / states + 1) (place % states + 1)) 0 (phones * states) place place
    (spot-below s high) (omega arith) ∙ ap₂ f p q

-- a place at the start of a phone
pub whole-place : (states n : ℕ) → n % states ≡ 0 → n ≡ n / states * states
whole-place states n e = sym (div-add-mod' n states) ∙ rw e (omega arith)

-- the phone of a place before or after it
module _ {states phone state : ℕ} (s : Spot states phone state) (n : ℕ) where
  some_state : 0 < states
  some_state = omega (arith, s.state_low, s.state_high)

  phone-below : n % states ≡ 0 → root_place states phone state < n → phone - 1 < n / states
  phone-below whole less =
      let within : root_place states phone state < n / states * states =
      subst (λ m. root_place states phone state < m) (whole-place states n whole) less in
      rw (← spot-phone s) ((div-lt_iff_lt-mul some_state).1 within)

  phone-above : n ≤ root_place states phone state → n / states < phone
  phone-above more =
      let last : root_place states phone state < phone * states =
      digits_lt {q = phone - 1} {m = phone} {r = state - 1} {c = states} (omega (arith, s.phone_low))
      (omega (arith, s.state_low, s.state_high)) in
      (div-lt_iff_lt-mul some_state).1 (omega (arith, last, more))

-- ---- settled places

-- the root of a phone and state is given
abbrev pub Given : List Root → (phone state : ℕ) → Type 0
Given roots phone state = (r : Root) × IsIn r roots × (r.phone ≡ phone) × (r.state ≡ state)

-- no root of a phone is given
abbrev pub Absent : List Root → (phone : ℕ) → Type 0
Absent roots phone = (r : Root) → IsIn r roots → r.phone ≡ phone → ⊥

abbrev pub Settled : (edge : ℕ → Bool) → List Root → (phone state : ℕ) → Type 0
Settled edge roots phone state =
    Given roots phone state ⊎ (T (edge phone) × Absent roots phone)

-- all places up to one are settled
abbrev pub SettledTo : (states : ℕ) → (edge : ℕ → Bool) → List Root → (to : ℕ) → Type 0
SettledTo states edge roots to =
    (phone state : ℕ) → Spot states phone state → root_place states phone state < to
    → Settled edge roots phone state

-- roots in order: the last of them stands before the next place, all others before it, and all is settled
pub record Rooted (states : ℕ) (edge : ℕ → Bool) (roots : List Root) : Type 0 where
  pub settled : SettledTo states edge roots (next_place states roots)
  pub spots : (r : Root) → IsIn r roots
      → Spot states r.phone r.state × (root_place states r.phone r.state < next_place states roots)
  pub last : 0 < next_place states roots
      → (r : Root) × IsIn r roots × (suc (root_place states r.phone r.state) ≡ next_place states roots)

pub rooted_none : (states : ℕ) (edge : ℕ → Bool) → Rooted states edge []
unfolding next_place
rooted_none states edge = record {
  settled = λ phone state s less. absurd (omega arith);
  spots = λ r i. absurd i;
  last = λ h. absurd (omega arith);
}

module _ {states : ℕ} {edge : ℕ → Bool} {roots : List Root} (k : Rooted states edge roots)
    (to : ℕ) (t : T (left_out edge states (next_place states roots) to))
  where
    abbrev next : ℕ
    next = next_place states roots

    abbrev way : (next ≡ to) ⊎ Gap states edge next to
    way = left_out_lem states edge next to t

    -- a phone between is a boundary phone, and none of its roots is given
    gap-settled : Gap states edge next to → (phone state : ℕ) → Spot states phone state
        → next ≤ root_place states phone state → root_place states phone state < to
        → Settled edge roots phone state
    gap-settled g phone state s low high =
        let above : next / states < phone = phone-above s next low in
        let below : phone - 1 < to / states = phone-below s to g.to_whole high in
        inr (
          g.between phone above (omega (arith, below, s.phone_low)),
          λ r i same.
              let (own, less) = k.spots r i in
              let before : r.phone - 1 < next / states = phone-below own next g.from_whole less in
              omega (arith, before, above, same),
        )

    -- so all is settled up to where lines were left out
    pub settled-to : SettledTo states edge roots to
    settled-to phone state s less =
        ⊎_elim (λ e. k.settled phone state s (omega (arith, e, less)))
        (λ g. by-test (ltb (root_place states phone state) next)
        (λ e. k.settled phone state s (ltb-true _ _ e))
        (λ e. gap-settled g phone state s (ltb-false _ _ e) less)) way

    -- and a root that stands there is of another phone than those left out
    other-phone : (p s : ℕ) → Spot states p s → root_place states p s < to → Absent roots p
        → (q u : ℕ) → Spot states q u → root_place states q u ≡ to → q ≡ p → ⊥
    other-phone p s a less absent q u b e same = ⊎_elim at_next over-gap way
      where
        later : 0 < u - 1
        later =
            let there : root_place states p s < root_place states p u =
            subst (λ n. root_place states p s < root_place states n u) same (omega (arith, less, e)) in
            omega (arith, there, a.state_low)

        at_next : next ≡ to → ⊥
        at_next here =
            let (r, i, before) = k.last (omega (arith, less, here)) in
            let own : Spot states q (u - 1) =
            record {
              phone_low = b.phone_low;
              state_low = omega (arith, later);
              state_high = omega (arith, b.state_high);
            } in
            absent r i ((same_spot (k.spots r i).0 own (omega (arith, before, here, e, later))).0 ∙ same)

        over-gap : Gap states edge next to → ⊥
        over-gap g =
            let first : u - 1 ≡ 0 = sym (spot-state b) ∙ ap (λ (n : ℕ). n % states) e ∙ g.to_whole in
            omega (arith, later, first)

    reached : next ≤ to
    reached = left-reaches states edge next to t

-- one root more
pub rooted_more : {states : ℕ} {edge : ℕ → Bool} {roots : List Root}
    → Rooted states edge roots → (r : Root) → Spot states r.phone r.state
    → T (left_out edge states (next_place states roots) (root_place states r.phone r.state))
    → Rooted states edge (roots ++ (r ∷ []))
rooted_more {states} {edge} {roots} k r s t = record {
  settled = λ phone state a less.
      by-test (ltb (root_place states phone state) place)
      (λ e. before phone state a (ltb-true (root_place states phone state) place e)) (λ e.
      let (p, q) =
      same_spot s a (omega (arith, ltb-false (root_place states phone state) place e, less, next_more states roots r)) in
      inl (r, in_right r roots (r ∷ []) (inl refl), p, q));
  spots = λ x i. ⊎_elim (λ own. ((k.spots x own).0, later x own))
      (λ own. rw (of-single r x own) (s, omega (arith, next_more states roots r)))
      (of-append x roots (r ∷ []) i);
  last = λ h. (r, in_right r roots (r ∷ []) (inl refl), sym (next_more states roots r));
}
  where
    place : ℕ
    place = root_place states r.phone r.state

    before : (phone state : ℕ) → Spot states phone state → root_place states phone state < place
        → Settled edge (roots ++ (r ∷ [])) phone state
    before phone state a less =
        ⊎_elim (λ (x, i, p, q). inl (x, in_left x roots (r ∷ []) i, p, q))
        (λ (edge, absent). inr (edge, still edge absent))
        (settled-to k place t phone state a less)
      where
        still : T (edge phone) → Absent roots phone → Absent (roots ++ (r ∷ [])) phone
        still edge absent x i same =
            ⊎_elim (λ own. absent x own same)
            (λ own. other-phone k place t phone state a less absent r.phone r.state s refl
            (ap (λ (y : Root). y.phone) (sym (of-single r x own)) ∙ same))
            (of-append x roots (r ∷ []) i)

    later : (x : Root) → IsIn x roots
        → root_place states x.phone x.state < next_place states (roots ++ (r ∷ []))
    later x i = omega (arith, (k.spots x i).1, reached k place t, next_more states roots r)
