-- Laws about the B lines of a written book: a phone has one exactly where its word is not 0, with that plain phone, and
-- they ascend. The laws about the texts of books use them.
use Rattle.std.specs.Prelude.{◌≡◌, refl, ◌≢◌, List, [], ◌∷◌, ◌++◌, Bool, true, false, T, leb, ltb, eqb, length}
use Rattle.std.proofs.Common.{sym, ap, ◌∙◌, subst, inl, inr, arith, leb→le, lt→ltb, ext_get_or}
use Rattle.std.proofs.Math.Bool.{not}
use Prim.Native.Nat.{ℕ, zero, suc, ◌+◌, ◌-◌, ◌≤◌, ◌<◌}
use Rattle.std.proofs.Math.Dec.{eqb→eq}
use borrow.Author.Tests.{eqb-true, eqb-false, eq-eqb, ne_eqb}
use Rattle.definitions.specs.declared.Header.{Header}
use Rattle.definitions.specs.Lists.{if◌then◌else◌, ◌!◌, every, map_option, last_passes, IsIn}
use Rattle.definitions.specs.BookLines.{Boundary, is_boundary, plain_for, plain_given, plain_words}
use Rattle.definitions.specs.BookReading.{plains_plain}
use Rattle.definitions.specs.ForeignTables.{plain_known, plains_known}
use Rattle.definitions.specs.BookText.{boundaries_from}
use Rattle.definitions.proofs.Laws.Lists.Tests.{T_and, by-test}
use Rattle.definitions.proofs.Laws.Lists.Lists.{map-up_from-length, map-up_from-at}
use Rattle.definitions.proofs.Laws.Lists.Members.{in-every, every_in, in-at}
use Rattle.definitions.proofs.Laws.Lists.FirstWhere.{first_some, in_some, none_first}
use Rattle.definitions.proofs.Laws.Lists.Rising.{Rising, rising-last}
use Rattle.definitions.proofs.Laws.Books.Accepted.{BoundaryFits}

-- ---- which there are

-- a boundary phone of words that stand from phone `at` on, by the place of its word
pub record Named (at : ℕ) (plains : List ℕ) (b : Boundary) : Type 0 where
  pub place : ℕ
  pub within : place < length plains
  pub phone : b.phone ≡ at + place
  pub plain : b.plain ≡ plains ! place
  pub nonzero : plains ! place ≢ 0

later-named : {at word : ℕ} {plains : List ℕ} {b : Boundary} → Named (suc at) plains b → Named at (word ∷ plains) b
later-named {at} n = record {
  place = suc n.place;
  within = omega (arith, n.within);
  phone = n.phone ∙ omega arith;
  plain = n.plain;
  nonzero = n.nonzero;
}

pub of-boundaries : (at : ℕ) (plains : List ℕ) (b : Boundary) → IsIn b (boundaries_from at plains) → Named at plains b
unfolding boundaries_from
of-boundaries at [] b i = absurd i
of-boundaries at (plain ∷ plains) b i =
    go (eqb plain 0) refl i (λ own. of-boundaries (suc at) plains b own)
  where
    go : (e : Bool) → eqb plain 0 ≡ e
        → IsIn b (if e then boundaries_from (suc at) plains else
        record { phone = at; plain = plain } ∷ boundaries_from (suc at) plains)
        → (IsIn b (boundaries_from (suc at) plains) → Named (suc at) plains b) → Named at (plain ∷ plains) b
    go true e i rest = later-named (rest i)
    go false e (inl q) rest =
        record {
          place = 0;
          within = omega arith;
          phone = ap (λ (x : Boundary). x.phone) q ∙ omega arith;
          plain = ap (λ (x : Boundary). x.plain) q;
          nonzero = eqb-false plain 0 e;
        }
    go false e (inr i) rest = later-named (rest i)

pub in-boundaries : (at : ℕ) (plains : List ℕ) (place : ℕ) → place < length plains → plains ! place ≢ 0
    → IsIn (record { phone = at + place; plain = plains ! place }) (boundaries_from at plains)
unfolding boundaries_from
in-boundaries at [] place h n = absurd (omega arith)
in-boundaries at (plain ∷ plains) zero h n =
    rw (ne_eqb plain 0 n)
    (inl (ap (λ (p : ℕ). record { phone = p; plain = plain }) {x = at + 0} {y = at} (omega arith)))
in-boundaries at (plain ∷ plains) (suc place) h n =
    go (eqb plain 0)
    (subst (λ p. IsIn (record { phone = p; plain = plains ! place }) (boundaries_from (suc at) plains))
    {x = suc at + place} {y = at + suc place} (omega arith) (in-boundaries (suc at) plains place (omega arith) n))
  where
    go : (e : Bool)
        → IsIn (record { phone = at + suc place; plain = plains ! place }) (boundaries_from (suc at) plains)
        → IsIn (record { phone = at + suc place; plain = plains ! place }) (if e then boundaries_from (suc at) plains
        else record { phone = at; plain = plain } ∷ boundaries_from (suc at) plains)
    go true i = i
    go false i = inr i

-- so a phone is among them exactly where its word is not 0
module _ (plains : List ℕ) (phone : ℕ) (low : 1 ≤ phone) where
  abbrev is_of : Boundary → Bool
  is_of b = eqb b.phone phone

  edge-named : (b : Boundary) → IsIn b (boundaries_from 1 plains) → T (is_of b) → b.plain ≡ plains ! (phone - 1)
  edge-named b i t =
      let n = of-boundaries 1 plains b i in
      let place : n.place ≡ phone - 1 = omega (arith, n.phone, eqb→eq b.phone phone t) in
      n.plain ∙ ap (λ (k : ℕ). plains ! k) place

  pub edge-word : T (is_boundary (boundaries_from 1 plains) phone) → plains ! (phone - 1) ≢ 0
  unfolding is_boundary
  edge-word t e =
      let (b, i, own, _) = first_some is_of (boundaries_from 1 plains) t in
      let n = of-boundaries 1 plains b i in n.nonzero (sym n.plain ∙ edge-named b i own ∙ e)

  module _ (high : phone ≤ length plains) (nonzero : plains ! (phone - 1) ≢ 0) where
    abbrev own : Boundary
    own = record { phone = 1 + (phone - 1); plain = plains ! (phone - 1) }

    own-listed : IsIn own (boundaries_from 1 plains)
    own-listed = in-boundaries 1 plains (phone - 1) (omega (arith, low, high)) nonzero

    own-passes : T (is_of own)
    own-passes = rw (eq-eqb (1 + (phone - 1)) phone (omega (arith, low))) tt

    pub word-edge : T (is_boundary (boundaries_from 1 plains) phone)
    unfolding is_boundary
    word-edge = in_some is_of (boundaries_from 1 plains) own own-listed own-passes

  -- the word again
  pub word-given : phone ≤ length plains → plain_given (boundaries_from 1 plains) phone ≡ plains ! (phone - 1)
  unfolding plain_given plain_for map_option
  word-given high =
      by-test (eqb (plains ! (phone - 1)) 0)
      (λ e.
      let zero_word = eqb-true (plains ! (phone - 1)) 0 e in
      let none = none_first is_of (boundaries_from 1 plains) (λ b i t.
      let n = of-boundaries 1 plains b i in n.nonzero (sym n.plain ∙ edge-named b i t ∙ zero_word)) in
      rw (plain_given, plain_for, none) (sym zero_word))
      (λ e.
      let nonzero = eqb-false (plains ! (phone - 1)) 0 e in
      let (b, i, t, first) = first_some is_of (boundaries_from 1 plains)
      (in_some is_of (boundaries_from 1 plains) (own high nonzero) (own-listed high nonzero) (own-passes high nonzero)) in
      rw (plain_given, plain_for, first) (edge-named b i t))

pub plains-again : (header : Header) (plains : List ℕ) → length plains ≡ header.phones
    → plain_words header (boundaries_from 1 plains) ≡ plains
unfolding plain_words
plains-again header plains wide =
    ext_get_or 0 (plain_words header (boundaries_from 1 plains)) plains
    (map-up_from-length _ 1 header.phones ∙ sym wide)
    (λ i h.
    let below : i < header.phones = omega (
      arith,
      h,
      map-up_from-length (plain_given (boundaries_from 1 plains)) 1
          header.phones,
    ) in
    map-up_from-at (plain_given (boundaries_from 1 plains)) 1 header.phones i (suc i) below (omega arith)
    ∙ word-given plains (suc i) (omega arith) (omega (arith, below, wide))
    ∙ ap (λ (k : ℕ). plains ! k) {x = suc i - 1} {y = i} (omega arith))

-- ---- their order

boundaries-rising : (at : ℕ) (plains : List ℕ)
    → Rising (λ a b. T (ltb a.phone b.phone)) (boundaries_from at plains)
unfolding boundaries_from
boundaries-rising at [] = tt
boundaries-rising at (plain ∷ plains) = go (eqb plain 0) (boundaries-rising (suc at) plains)
  where
    later : (b : Boundary) → IsIn b (boundaries_from (suc at) plains) → T (ltb at b.phone)
    later b i = lt→ltb at b.phone (omega (arith, (of-boundaries (suc at) plains b i).phone))

    go : (e : Bool) → Rising (λ a b. T (ltb a.phone b.phone)) (boundaries_from (suc at) plains)
        → Rising (λ a b. T (ltb a.phone b.phone)) (if e then boundaries_from (suc at) plains
        else record { phone = at; plain = plain } ∷ boundaries_from (suc at) plains)
    go true rest = rest
    go false rest = (later, rest)

pub boundaries-ascend : (plains : List ℕ) (done : List Boundary) (b : Boundary) (rest : List Boundary)
    → boundaries_from 1 plains ≡ done ++ (b ∷ rest) → T (last_passes (λ a. ltb a.phone b.phone) done)
boundaries-ascend plains done b rest e =
    rising-last (λ a b. ltb a.phone b.phone) done b rest
    (subst (Rising (λ a b. T (ltb a.phone b.phone))) e (boundaries-rising 1 plains))

-- ---- of known words

module _ (header : Header) (plains : List ℕ) (wide : length plains ≡ header.phones)
    (known : T (plains_known header plains))
  where
    first-zero : plains ! 0 ≡ 0
    unfolding plains_known
    first-zero = eqb→eq _ 0 ((T_and (eqb (plains ! 0) 0) (every (plain_known header plains) plains)).0 known).0

    word-known : (place : ℕ) → place < length plains
        → (plains ! place ≤ header.phones) × (plains ! (plains ! place - 1) ≡ 0)
    unfolding plains_known plain_known
    word-known place h =
        let word : ℕ = plains ! place in
        let one = in-every (plain_known header plains) plains
        ((T_and (eqb (plains ! 0) 0) (every (plain_known header plains) plains)).0 known).1 word
        (in-at plains place 0 h) in
        let (high, inner) = (T_and (leb word header.phones) (eqb (plains ! (word - 1)) 0)).0 one in
        (leb→le word header.phones high, eqb→eq _ 0 inner)

    pub boundaries-fit : (b : Boundary) → IsIn b (boundaries_from 1 plains) → BoundaryFits header 0 b
    boundaries-fit b i =
        let n = of-boundaries 1 plains b i in
        let beyond : n.place ≢ 0 = λ e. n.nonzero (ap (λ (k : ℕ). plains ! k) e ∙ first-zero) in
        let some-plain : b.plain ≢ 0 = λ e. n.nonzero (sym n.plain ∙ e) in
        record {
          phone_low = omega (arith, n.phone, beyond);
          phone_high = omega (arith, n.phone, n.within, wide);
          plain_low = omega (arith, some-plain);
          plain_high = omega (arith, n.plain, (word-known n.place n.within).0);
        }

    -- no plain phone is a boundary phone
    pub plains-plain : T (plains_plain (boundaries_from 1 plains))
    unfolding plains_plain
    plains-plain =
        every_in (λ b. not (is_boundary (boundaries_from 1 plains) b.plain)) (boundaries_from 1 plains) (λ b i.
        let n = of-boundaries 1 plains b i in
        let fits = boundaries-fit b i in
        by-test (is_boundary (boundaries_from 1 plains) b.plain)
        (λ e. absurd (edge-word plains b.plain fits.plain_low (rw e tt)
        (ap (λ (k : ℕ). plains ! (k - 1)) n.plain ∙ (word-known n.place n.within).1)))
        (λ e. rw e tt))
