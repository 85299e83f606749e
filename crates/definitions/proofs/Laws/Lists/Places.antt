-- Laws about the place of an element in a list, by a test that tells whether two are the same: each element stands at
-- its place, and places stay when a list grows at its end.
use Rattle.std.specs.Prelude.{◌≡◌, Bool, true, false, T, eqb, length, get_or}
use Rattle.std.proofs.Math.Path.{sym}
use Rattle.std.proofs.Common.{ap, ◌∙◌, subst, inl, inr, eqb→eq}
use mathlib.Core.List.{List, [], ◌∷◌, ◌++◌}
use Prim.Native.Nat.{ℕ, suc, ◌<◌}
use native.Mathlib.Omega.{arith}
use Rattle.std.proofs.Math.Dec.{eqb_refl}
use Rattle.definitions.specs.Lists.{place_of, IsIn, Distinct}
use Rattle.definitions.proofs.Laws.Lists.Tests.{Tells, by-test}
use Rattle.definitions.proofs.Laws.Lists.Members.{in-at, same_place}

-- numbers
pub numbers-told : Tells eqb
numbers-told = record { same_equal = eqb→eq; self = eqb_refl }

module _ {X : Type 0} (same : X → X → Bool) (tells : Tells same) where
  -- where the test says yes the two are equal, where it says no they differ
  pub when-same : (x y : X) → same x y ≡ true → x ≡ y
  when-same x y e = tells.same_equal x y (subst T (sym e) tt)

  when-other : (x y : X) → same x y ≡ false → x ≡ y → ⊥
  when-other x y e f = subst T (ap (λ z. same x z) f ∙ e) (tells.self x)

  -- an element that differs from the first of a table is in the rest
  pub in_rest : (x y : X) (table : List X) → same x y ≡ false → IsIn x (y ∷ table)
      → IsIn x table
  in_rest x y table e (inl f) = absurd (when-other x y e f)
  in_rest x y table e (inr h) = h

  -- an element of the table stands at its place
  pub placed : (nothing x : X) (table : List X) → IsIn x table
      → (place_of same table x < length table) × (get_or table (place_of same table x) nothing ≡ x)
  unfolding place_of
  placed nothing x [] h = absurd h
  placed nothing x (y ∷ table) h =
      by-test (same x y)
      (λ e. rw e (omega arith, sym (when-same x y e)))
      (λ e. let (l, f) = placed nothing x table (in_rest x y table e h) in rw e (omega arith, f))

  -- in a table without repetition, what stands at a place has that place
  pub place_at : (nothing : X) (table : List X) → Distinct table → (i : ℕ) → i < length table
      → place_of same table (get_or table i nothing) ≡ i
  place_at nothing table u i h =
      let (l, e) = placed nothing (get_or table i nothing) table (in-at table i nothing h) in
      same_place table nothing u _ i l h e

  -- a place stays when the table grows at its end
  pub place-stays : (x : X) (table more : List X) → IsIn x table
      → place_of same (table ++ more) x ≡ place_of same table x
  unfolding place_of
  place-stays x [] more h = absurd h
  place-stays x (y ∷ table) more h =
      by-test (same x y) (λ e. rw e)
      (λ e. rw e (ap suc (place-stays x table more (in_rest x y table e h))))
