-- Searching the table that a build grows: an element of it is found at its place, and no other is. What a build
-- performs is told by these (construction/Performing.antt).
use Rattle.std.proofs.Math.Path.{◌≡◌, ap}
use Rattle.std.specs.Prelude.{refl, Bool, length}
use Rattle.std.proofs.Common.{inl, inr, arith}
use mathlib.Core.List.{List, [], ◌∷◌, ◌++◌}
use Rattle.std.proofs.Math.Option.{Option, none, some, none-ne-some, some-ne-none}
use Prim.Native.Nat.{ℕ, suc, ◌+◌}
use Rattle.definitions.specs.Growing.{place_from}
use Rattle.definitions.proofs.Laws.Lists.Tests.{Tells, by-test, if-true}
use Rattle.definitions.specs.Lists.{place_of, IsIn}
use Rattle.definitions.proofs.Laws.Lists.Places.{when-same, in_rest}

module _ {X : Type 0} (same : X → X → Bool) (tells : Tells same) where
  -- what the search finds is in the table at its place
  pub place_found : (at place : ℕ) (x : X) (table : List X) → place_from same at x table ≡ some place
      → IsIn x table × (place ≡ at + place_of same table x)
  unfolding place_from place_of
  place_found at place x [] e = absurd (none-ne-some place e)
  place_found at place x (y ∷ table) e =
      by-test (same x y)
      (λ f. let z : ◌≡◌ {A = Option ℕ} (some at) (some place) = rw f at e in
      rw f (inl (when-same same tells x y f), let w : at ≡ place = cc in omega arith))
      (λ f. let (h, z) = place_found (suc at) place x table (rw f at e) in rw f (inr h, omega arith))

  -- what the search does not find is new, and gets the place at the end
  pub place-new : (at : ℕ) (x : X) (table : List X) → place_from same at x table ≡ none
      → (IsIn x table → ⊥) × (place_of same (table ++ (x ∷ [])) x ≡ length table)
  unfolding place_from place_of
  place-new at x [] e = (λ h. h, if-true (same x x) 0 1 (tells.self x))
  place-new at x (y ∷ table) e =
      by-test (same x y)
      (λ f. absurd (some-ne-none at (rw f at e)))
      (λ f. let (h, z) = place-new (suc at) x table (rw f at e) in
      rw f (λ i. h (in_rest same tells x y table f i), ap suc z))

  -- so an element of the table is found at its place, and no other is
  pub place_known : (x : X) (table : List X) → IsIn x table
      → place_from same 0 x table ≡ some (place_of same table x)
  place_known x table h = go (place_from same 0 x table) refl
    where
      go : (found : Option ℕ) → place_from same 0 x table ≡ found → found ≡ some (place_of same table x)
      go (some place) e =
          let here : place ≡ place_of same table x = omega (arith, (place_found 0 place x table e).1) in
          ap some here
      go none e = absurd ((place-new 0 x table e).0 h)

  pub place_none : (x : X) (table : List X) → (IsIn x table → ⊥) → place_from same 0 x table ≡ none
  place_none x table h = go (place_from same 0 x table) refl
    where
      go : (found : Option ℕ) → place_from same 0 x table ≡ found → found ≡ none
      go (some place) e = absurd (h (place_found 0 place x table e).0)
      go none e = refl
