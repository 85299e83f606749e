-- Laws about boundary phones as sets: a set of listed phones has the phones that are listed, so what is asked of
-- the sets is what document 02 asks of the B lines.
use Rattle.std.specs.Prelude.{◌≡◌, refl, ◌↔◌, List, [], ◌∷◌, ◌++◌, map, Bool, not, ◌&&◌, ◌||◌, eqb}
use Rattle.std.proofs.Common.{sym, ap, ap₂, ◌∙◌, subst}
use Rattle.std.proofs.Math.Bool.{or_assoc}
use Prim.Native.Nat.{ℕ, zero, suc, ◌+◌, ◌-◌, ◌/◌, ◌≤◌}
use native.Mathlib.Omega.{arith}
use Rattle.std.specs.Int.Bits.{bit_and, bit_or, or_zero_r}
use Rattle.std.proofs.Math.Dec.{T, eqb→eq}
use Rattle.std.proofs.lemmas.Bool.{eqb-false}
use Rattle.definitions.specs.Lists.{every, at_least_one, up_from, IsIn}
use Rattle.definitions.specs.PhoneSets.{has, alone, set_of}
use Rattle.definitions.specs.BookLines.{Boundary, is_boundary}
use Rattle.definitions.specs.BookReading.{left_out, plains_plain}
use Rattle.booklines.specs.States.{boundary_set, plain_set}
use Rattle.definitions.proofs.Laws.Lists.Tests.{T_and, same_tests, eq→eqb, by-test}
use Rattle.definitions.proofs.Laws.Lists.Members.{in_map, of_map, every_in, in-every, listed}
use Rattle.definitions.proofs.Laws.Lists.FirstWhere.{not-both}
use Rattle.definitions.proofs.Laws.Matrices.PhoneSets.{has-or, has-and, has_listed, same-members, some-member}
use Rattle.definitions.proofs.Laws.Matrices.PhoneSets.{member-nonzero}

-- ---- one phone more

or-joined : (a b c : ℕ) → bit_or a (bit_or b c) ≡ bit_or (bit_or a b) c
or-joined a b c = same-members (bit_or a (bit_or b c)) (bit_or (bit_or a b) c)
    (λ p. simp has-or (sym (or_assoc (has p a) (has p b) (has p c))))

pub set_of-snoc : (l : List ℕ) (p : ℕ) → set_of (l ++ (p ∷ [])) ≡ bit_or (set_of l) (alone p)
unfolding set_of
set_of-snoc [] p = or_zero_r (alone p)
set_of-snoc (q ∷ l) p = ap (bit_or (alone q)) (set_of-snoc l p) ∙ or-joined (alone q) (set_of l) (alone p)

-- ---- which phones are boundary phones

swapped : (m n : ℕ) → eqb m n ≡ eqb n m
swapped m n =
    same_tests (eqb m n) (eqb n m) (λ t. eq→eqb n m (sym (eqb→eq m n t))) (λ t. eq→eqb m n (sym (eqb→eq n m t)))

listed-phone : (p : ℕ) (boundaries : List Boundary)
    → at_least_one (eqb p) (map (λ b. b.phone) boundaries) ≡ is_boundary boundaries p
unfolding is_boundary at_least_one
listed-phone p [] = refl
listed-phone p (b ∷ boundaries) = ap₂ ◌||◌ (swapped p b.phone) (listed-phone p boundaries)

pub has-boundary : (boundaries : List Boundary) (p : ℕ) → 1 ≤ p
    → has p (boundary_set boundaries) ≡ is_boundary boundaries p
has-boundary boundaries zero h = absurd (omega arith)
has-boundary boundaries (suc i) h = has_listed i (map (λ b. b.phone) boundaries) ∙ listed-phone (suc i) boundaries

-- ---- tests that agree on phones

every-agrees : (f g : ℕ → Bool) → ((p : ℕ) → 1 ≤ p → f p ≡ g p) → (a count : ℕ) → 1 ≤ a
    → every f (up_from a count) ≡ every g (up_from a count)
unfolding every up_from
every-agrees f g h a zero low = refl
every-agrees f g h a (suc count) low = ap₂ ◌&&◌ (h a low) (every-agrees f g h (suc a) count (omega arith))

pub left-out-agrees : (f g : ℕ → Bool) → ((p : ℕ) → 1 ≤ p → f p ≡ g p) → (states from to : ℕ)
    → left_out f states from to ≡ left_out g states from to
unfolding left_out
left-out-agrees f g h states from to =
    rw (every-agrees f g h (from / states + 1) (to / states - from / states) (omega arith))

-- ---- a plain phone that is a boundary phone

-- plain phones count from 1
abbrev pub PlainsLow : List Boundary → Type 0
PlainsLow boundaries = (b : Boundary) → IsIn b boundaries → 1 ≤ b.plain

module _ (boundaries : List Boundary) (low : PlainsLow boundaries) where
  abbrev plains : List ℕ
  plains = map (λ b. b.plain) boundaries

  abbrev both : ℕ
  both = bit_and (boundary_set boundaries) (plain_set boundaries)

  abbrev is_plain : Boundary → Bool
  is_plain b = not (is_boundary boundaries b.plain)

  -- the set of plain phones has these, and no others
  has-plain : (p : ℕ) → 1 ≤ p → IsIn p plains → T (has p (plain_set boundaries))
  has-plain zero h i = absurd (omega arith)
  has-plain (suc p) h i = subst T (sym (has_listed p plains)) ((listed (suc p) plains).1 i)

  plain_of : (p : ℕ) → T (has p (plain_set boundaries)) → (1 ≤ p) × IsIn p plains
  unfolding has
  plain_of zero h = absurd h
  plain_of (suc p) h = (omega arith, (listed (suc p) plains).0 (subst T (has_listed p plains) h))

  -- so both sets have a phone where a B line's plain phone is a boundary phone, and only then
  shared : (p : ℕ) → T (has p both) ↔ (T (has p (boundary_set boundaries)) × T (has p (plain_set boundaries)))
  shared p =
      rw (has-and p (boundary_set boundaries) (plain_set boundaries))
      (T_and (has p (boundary_set boundaries)) (has p (plain_set boundaries)))

  chained-shared : (b : Boundary) → IsIn b boundaries → T (is_boundary boundaries b.plain)
      → T (has b.plain both)
  chained-shared b i edge =
      (shared b.plain).1 (
        subst T (sym (has-boundary boundaries b.plain (low b i))) edge,
        has-plain b.plain (low b i) (in_map (λ (x : Boundary). x.plain) b boundaries i),
      )

  shared-chained : (p : ℕ) → T (has p both)
      → (b : Boundary) × IsIn b boundaries × T (is_boundary boundaries b.plain)
  shared-chained p h =
      let (edge, own) = (shared p).0 h in
      let (phone, i) = plain_of p own in
      let (b, among, e) = of_map (λ (x : Boundary). x.plain) p boundaries i in
      (b, among, rw (← e, ← has-boundary boundaries p phone) edge)

  apart-plain : both ≡ 0 → T (plains_plain boundaries)
  unfolding plains_plain
  apart-plain e =
      every_in is_plain boundaries (λ b i. by-test (is_boundary boundaries b.plain)
      (λ q. absurd (member-nonzero b.plain both (chained-shared b i (rw q tt)) e)) (λ q. rw q tt))

  plain-apart : T (plains_plain boundaries) → both ≡ 0
  unfolding plains_plain
  plain-apart t =
      by-test (eqb both 0) (λ q. eqb→eq both 0 (rw q tt)) (λ q.
      let (p, h) = some-member both (eqb-false both 0 q) in
      let (b, i, edge) = shared-chained p h in
      absurd (not-both (is_boundary boundaries b.plain) edge (in-every is_plain boundaries t b i)))

  pub sets-chained : eqb both 0 ≡ plains_plain boundaries
  sets-chained =
      same_tests (eqb both 0) (plains_plain boundaries) (λ t. apart-plain (eqb→eq both 0 t))
      (λ t. eq→eqb both 0 (plain-apart t))
