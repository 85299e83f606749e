-- Laws about one field read byte by byte: its leading spaces, then its digits, from any place on.
use Rattle.std.specs.Prelude.{if◌then◌else◌, ◌≡◌, refl, ◌⊎◌, List, [], ◌∷◌, ℕ, zero, suc, ◌+◌, ◌-◌, ◌*◌, ◌^◌, ◌≤◌, ◌<◌, leb, length, take, drop, true, false, T}
use Rattle.std.proofs.Common.{ap, sym, subst, ◌∙◌, inl, inr, arith, drop_of_length-le, length-drop, drop-cons, take_all}
use Rattle.std.proofs.Math.Numerals.{add-one}
use borrow.Author.Tests.{eq-eqb, ne_eqb, le-leb, lt-leb}
use Rattle.definitions.specs.Lists.{◌!◌, every}
use Rattle.definitions.specs.Numerals.{is_digit, is_numeral, value_of}
use Rattle.definitions.specs.Lines.{space, Field, blank, malformed, number, skip_spaces, digits_field, field_of}
use Rattle.definitions.proofs.Laws.Lists.Tests.{by-test}
use Rattle.definitions.proofs.Laws.Text.Numerals.{digit-range}

-- ---- leading spaces

module _ (s : List ℕ) (i : ℕ) where
  pub space-passed : i < length s → s ! i ≡ space → skip_spaces (drop i s) ≡ skip_spaces (drop (i + 1) s)
  unfolding skip_spaces
  space-passed h e = rw (drop-cons s i 0 h, eq-eqb _ _ e, add-one)

  pub space-stops : i < length s → (s ! i ≡ space → ⊥) → drop i s ≡ skip_spaces (drop i s)
  unfolding skip_spaces
  space-stops h e = rw (drop-cons s i 0 h, ne_eqb _ _ e)

  pub spaces-end : length s ≤ i → drop i s ≡ skip_spaces (drop i s)
  unfolding skip_spaces
  spaces-end h = rw (drop_of_length-le s {i = i} h)

-- ---- digits

-- what bytes make of the number that the digits before them gave
unfoldable pub rest_field : (value : ℕ) → List ℕ → Field
rest_field value bytes = if every is_digit bytes then number (value_of value bytes) else malformed

-- a number's digits after the first i: what they gave, and what the field is if the others are digits
pub record Reading (s : List ℕ) (value i : ℕ) : Type 0 where
  pub within : i ≤ length s
  pub below : value < 10 ^ i
  pub field : digits_field s ≡ rest_field value (drop i s)

pub digits-none : (s : List ℕ) → length s ≡ 0 → digits_field s ≡ blank
unfolding digits_field
digits-none [] h = refl
digits-none (b ∷ s) h = absurd (omega arith)

pub leading-zero : (s : List ℕ) → 1 < length s → s ! 0 ≡ 48 → digits_field s ≡ malformed
unfolding digits_field is_numeral
leading-zero [] h e = absurd (omega arith)
leading-zero (b ∷ []) h e = absurd (omega arith)
leading-zero (b ∷ c ∷ s) h e = by-test (is_digit b) (λ d. rw (d, eq-eqb _ _ e)) (λ d. rw d)

-- no leading zero
pub digits-start : (s : List ℕ) → (length s ≡ 0 → ⊥) → (length s ≤ 1) ⊎ (s ! 0 ≡ 48 → ⊥) → Reading s 0 0
unfolding digits_field is_numeral rest_field every
digits-start [] h lead = absurd (h refl)
digits-start (b ∷ []) h lead =
    record { within = omega arith; below = omega arith; field = by-test (is_digit b) (λ d. rw d) (λ d. rw d) }
digits-start (b ∷ c ∷ s) h (inl short) = absurd (omega arith)
digits-start (b ∷ c ∷ s) h (inr other) =
    record {
      within = omega arith;
      below = omega arith;
      field = rw (ne_eqb _ _ other) (by-test (is_digit b) (λ d. rw d) (λ d. rw d));
    }

-- at most six digits, of which another is to come
pub value-small : (value i left : ℕ) → i + left ≡ 5 → value < 10 ^ i → value < 100000
value-small value i zero e h = let five : i ≡ 5 = omega arith in rw five at h
value-small value i (suc left) e h = value-small value (suc i) left (omega arith) (omega arith)

module _ {s : List ℕ} {value i : ℕ} (r : Reading s value i) where
  pub digit-other : i < length s → is_digit (s ! i) ≡ false → digits_field s ≡ malformed
  unfolding rest_field every
  digit-other h other = r.field ∙ rw (drop-cons s i 0 h, other)

  pub digit-next : (digit : ℕ) → i < length s → is_digit (s ! i) ≡ true → digit ≡ s ! i - 48
      → Reading s (value * 10 + digit) (i + 1)
  unfolding rest_field every value_of
  digit-next digit h is e =
      let below : digit < 10 = omega (arith, e, (digit-range (s ! i) (subst T (sym is) tt)).1) in
      record {
        within = omega arith;
        below = rw add-one (omega (arith, r.below));
        field = r.field ∙ rw (drop-cons s i 0 h, is, add-one, e);
      }

  pub digits-end : length s ≤ i → digits_field s ≡ number value
  unfolding rest_field every value_of
  digits-end h = r.field ∙ rw (drop_of_length-le s {i = i} h)

-- ---- the field: the digits after the spaces

pub field-read : (s rest : List ℕ) {f : Field} → rest ≡ skip_spaces s → f ≡ digits_field rest → f ≡ field_of s
unfolding field_of
field-read s rest found e = e ∙ ap digits_field found
