-- Laws about finding a list's used part from its end.
use Rattle.std.specs.Prelude.{◌≡◌, List, [], ◌∷◌, true, false, T, ℕ, zero, suc, ◌-◌, ◌≤◌, ◌<◌, eqb, length, map, get_or, take}
use Rattle.std.proofs.Math.Path.{sym}
use Rattle.std.proofs.lemmas.Bool.{eqb-true}
use Rattle.std.proofs.Common.{ap, ◌∙◌, subst, ne_eqb, eq-eqb}
use native.Mathlib.Omega.{arith}
use Rattle.std.proofs.Math.Dec.{eqb-suc-zero}
use Rattle.std.proofs.Math.Seq.{take-length}
use Rattle.definitions.specs.Lists.{◌!◌}
use Rattle.definitions.proofs.Laws.Lists.Lists.{map_at}
use Rattle.definitions.proofs.Laws.Lists.Tests.{by-test}
use Rattle.showing.specs.Used.{used_of}

-- a zero at the end of a part counts for nothing
used-beyond : (l : List ℕ) (i : ℕ) → i < length l → l ! i ≡ 0 → used_of (take (suc i) l) ≡ used_of (take i l)
unfolding used_of
used-beyond [] i h e = absurd (omega arith)
used-beyond (x ∷ l) zero h e = rw e
used-beyond (x ∷ l) (suc i) h e = rw (used-beyond l i (omega arith) e)

-- a part that ends with another number counts whole
used-whole : (l : List ℕ) (i : ℕ) → i < length l → (l ! i ≡ 0 → ⊥) → used_of (take (suc i) l) ≡ suc i
unfolding used_of
used-whole [] i h e = absurd (omega arith)
used-whole (x ∷ l) zero h e = rw (ne_eqb x 0 e)
used-whole (x ∷ l) (suc i) h e =
    let rest = used-whole l i (omega arith) e in
    by-test (eqb x 0) (λ d. rw (d, rest, eqb-suc-zero i)) (λ d. rw (d, rest))

-- what is used lies before a place
pub record UsedBefore (l : List ℕ) (used : ℕ) : Type 0 where
  pub within : used ≤ length l
  pub rest : used_of l ≡ used_of (take used l)

pub used_start : (l : List ℕ) → UsedBefore l (length l)
used_start l = record { within = omega arith; rest = rw (take-length l) }

module _ {l : List ℕ} {used : ℕ} (b : UsedBefore l used) where
  pub used-less : 0 < used → l ! (used - 1) ≡ 0 → UsedBefore l (used - 1)
  used-less p e =
      let next : suc (used - 1) ≡ used = omega arith in
      record {
        within = omega (arith, b.within);
        rest =
            b.rest ∙ ap (λ (n : ℕ). used_of (take n l)) (sym next)
            ∙ used-beyond l (used - 1) (omega (arith, b.within)) e;
      }

  pub used-here : 0 < used → (l ! (used - 1) ≡ 0 → ⊥) → (used ≤ length l) × (used ≡ used_of l)
  used-here p e =
      let next : suc (used - 1) ≡ used = omega arith in (
        b.within,
        sym next ∙ sym (used-whole l (used - 1) (omega (arith, b.within)) e)
            ∙ ap (λ (n : ℕ). used_of (take n l)) next ∙ sym b.rest,
      )

  pub used-end : used ≤ 0 → (used ≤ length l) × (used ≡ used_of l)
  unfolding used_of
  used-end h =
      let none : used ≡ 0 = omega arith in
      let all : used ≡ used_of (take used l) = rw none in
      (b.within, all ∙ sym b.rest)

-- ---- the numbers behind elements

module _ {A : Type 0} (value : A → ℕ) (l : List A) (i : ℕ) (x : A) (h : i < length l) (e : x ≡ get_or l i x) where
  number-at : map value l ! i ≡ value x
  number-at = map_at value l x 0 i h ∙ ap value (sym e)

  pub zero-at : eqb (value x) 0 ≡ true → map value l ! i ≡ 0
  zero-at is = number-at ∙ eqb-true _ _ is

  pub other-at : eqb (value x) 0 ≡ false → map value l ! i ≡ 0 → ⊥
  other-at isnt z = subst T (sym (eq-eqb _ _ (sym number-at ∙ z)) ∙ isnt) tt
