-- Laws about the next member of a set: a set lacks as many places, from one on, as there are zeros at the end
-- of what is left of it from there.
use Rattle.std.specs.Prelude.{◌≡◌, refl, false, ℕ, zero, suc, ◌+◌, ◌-◌, ◌/◌, ◌%◌, ◌^◌, ◌≤◌, ◌<◌, eqb}
use Rattle.std.proofs.Common.{sym, ap, ◌∙◌, div-one, arith, shr-shr}
use Rattle.std.specs.Int.Count.{count_trailing_zeros, under}
use Rattle.definitions.specs.PhoneSets.{has}
use Rattle.index.specs.Indexing.{NextMember}

-- the zeros at a number's end are places that the set lacks
zeros-lack : (d s j : ℕ) → j < count_trailing_zeros d s → has (suc j) s ≡ false
unfolding count_trailing_zeros has
zeros-lack zero s j h = absurd (omega arith)
zeros-lack (suc d) s j h = go (s % 2) refl j h (λ i l. zeros-lack d (s / 2) i l)
  where
    go : (r : ℕ) → s % 2 ≡ r → (j : ℕ) → j < under r (count_trailing_zeros d (s / 2))
        → ((i : ℕ) → i < count_trailing_zeros d (s / 2) → eqb (s / 2 / 2 ^ i % 2) 1 ≡ false)
        → eqb (s / 2 ^ j % 2) 1 ≡ false
    go zero e zero h ih = rw (div-one, e)
    go zero e (suc j) h ih =
        ap (λ (k : ℕ). eqb (k % 2) 1)
        (ap (λ (k : ℕ). s / 2 ^ k) {x = suc j} {y = 1 + j} (omega arith) ∙ sym (shr-shr s 1 j))
        ∙ ih j (omega arith)
    go (suc r) e j h ih = absurd (omega arith)

-- so a set lacks all from one on, as many as there are zeros in what is left of it from there
lacks-from : (s from p : ℕ) → 1 ≤ from → from ≤ p → p < from + count_trailing_zeros 64 (s / 2 ^ (from - 1))
    → has p s ≡ false
unfolding has
lacks-from s from zero f h l = absurd (omega arith)
lacks-from s from (suc i) f h l =
    let at : (from - 1) + (i - (from - 1)) ≡ i = omega arith in
    let short : i - (from - 1) < count_trailing_zeros 64 (s / 2 ^ (from - 1)) = omega arith in
    ap (λ (k : ℕ). eqb (k % 2) 1)
    (ap (λ (k : ℕ). s / 2 ^ k) (sym at) ∙ sym (shr-shr s (from - 1) (i - (from - 1))))
    ∙ zeros-lack 64 (s / 2 ^ (from - 1)) (i - (from - 1)) short

module _ (s from : ℕ) (f : 1 ≤ from) where
  -- none is left
  pub next_past : 64 < from → from ≤ 65 → NextMember s from 65
  next_past h l = record { after = l; within = omega arith; passed = λ p a b. absurd (omega arith) }

  pub next-none : from ≤ 64 → 64 < from + count_trailing_zeros 64 (s / 2 ^ (from - 1)) → NextMember s from 65
  next-none l h =
      record {
        after = omega arith;
        within = omega arith;
        passed = λ p a b. lacks-from s from p f a (omega (arith, b, h));
      }

  pub next-found : from + count_trailing_zeros 64 (s / 2 ^ (from - 1)) ≤ 64
      → NextMember s from (from + count_trailing_zeros 64 (s / 2 ^ (from - 1)))
  next-found h =
      record {
        after = omega arith;
        within = omega (arith, h);
        passed = λ p a b. lacks-from s from p f a b;
      }
