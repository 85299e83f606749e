-- Laws about the test whether two lists are the same, a place at a time. The proofs of the functions that
-- compare words or bytes use them.
use Rattle.std.specs.Prelude.{◌≡◌, refl, List, [], ◌∷◌, true, false, ℕ, suc, ◌+◌, ◌≤◌, ◌<◌, eqb, length, drop}
use Rattle.std.proofs.Math.Path.{sym}
use Rattle.std.proofs.Common.{ap, ◌∙◌, add-one, arith}
use Rattle.std.proofs.Math.ListN.{drop_of_length-le}
use Rattle.std.proofs.Math.Seq.{drop-cons}
use borrow.Author.Tests.{eq-eqb, ne_eqb}
use Rattle.definitions.specs.Lists.{◌!◌, same}
use Rattle.definitions.proofs.Laws.Lists.Tests.{by-test}

pub same-lengths : (k l : List ℕ) → (length k ≡ length l → ⊥) → false ≡ same k l
unfolding same
same-lengths [] [] h = absurd (h refl)
same-lengths [] (y ∷ l) h = refl
same-lengths (x ∷ k) [] h = refl
same-lengths (x ∷ k) (y ∷ l) h = by-test (eqb x y)
    (λ e. rw e (same-lengths k l (λ q. h (ap suc q))))
    (λ e. rw e)

-- the elements before place i are the same, so the whole is left to the others
pub record Alike (k l : List ℕ) (i : ℕ) : Type 0 where
  pub sized : length k ≡ length l
  pub rest : same k l ≡ same (drop i k) (drop i l)

pub alike-start : (k l : List ℕ) → length k ≡ length l → Alike k l 0
alike-start k l e = record { sized = e; rest = refl }

module _ {k l : List ℕ} {i : ℕ} (a : Alike k l i) where
  pub alike-more : i < length k → k ! i ≡ l ! i → Alike k l (i + 1)
  unfolding same
  alike-more h e = record {
    sized = a.sized;
    rest =
        a.rest
        ∙ rw (drop-cons k i 0 h, drop-cons l i 0 (omega (arith, a.sized)), eq-eqb (k ! i) (l ! i) e, add-one);
  }

  pub alike-stop : i < length k → (k ! i ≡ l ! i → ⊥) → false ≡ same k l
  unfolding same
  alike-stop h n =
      sym (a.rest
      ∙ rw (drop-cons k i 0 h, drop-cons l i 0 (omega (arith, a.sized)), ne_eqb (k ! i) (l ! i) n))

  pub alike_end : length k ≤ i → true ≡ same k l
  unfolding same
  alike_end h =
      sym (a.rest
      ∙ rw (drop_of_length-le k {i = i} h, drop_of_length-le l {i = i} (omega (arith, a.sized))))
