-- Laws about a set among others: whether it is there, and its place.
use Rattle.std.specs.Prelude.{◌≡◌, refl, List, [], ◌∷◌, true, false, ℕ, ◌≤◌, ◌<◌, eqb, length, Option}
use Rattle.std.specs.Iterator.{}
use Rattle.std.specs.List.{list_any, AllWithin, HoldsAt}
use Rattle.std.specs.Option.{unwrap_or, MatchOption}
use Rattle.std.proofs.Common.{sym, inl, inr, add-one, arith, eqb→eq, eq-eqb, ne_eqb}
use Rattle.std.proofs.lemmas.Iterator.{index_from_first}
use Rattle.definitions.specs.Lists.{at_least_one, place_of, IsIn}
use Rattle.definitions.proofs.Laws.Lists.Tests.{by-test, same_tests}
use Rattle.definitions.proofs.Laws.Lists.Members.{listed}
use Rattle.definitions.proofs.Laws.Lists.Places.{numbers-told, placed}

-- ---- as the library says it

same-swapped : (x y : ℕ) → eqb x y ≡ eqb y x
same-swapped x y =
    same_tests (eqb x y) (eqb y x) (λ t. rw (eq-eqb y x (sym (eqb→eq x y t))) tt)
    (λ t. rw (eq-eqb x y (sym (eqb→eq y x t))) tt)

-- whether it is there, as the library's `contains` says it
pub listed-any : (set : ℕ) (sets : List ℕ) → list_any (λ y. eqb y set) sets ≡ at_least_one (eqb set) sets
unfolding at_least_one
listed-any set [] = refl
listed-any set (other ∷ sets) = rw (same-swapped other set, listed-any set sets)

-- its place, as the library's `position` says it
pub place-first : (set : ℕ) (sets : List ℕ) (r : Option ℕ)
    → MatchOption r (AllWithin (λ y. y ≡ set → ⊥) sets 0 (length sets))
    (λ i. (i < length sets) × HoldsAt (λ y. y ≡ set) sets i × AllWithin (λ y. y ≡ set → ⊥) sets 0 i)
    → place_of eqb sets set ≡ unwrap_or r (length sets)
unfolding place_of
place-first set =
    index_from_first (λ l. place_of eqb l set) (λ y. y ≡ set) (λ y. y ≡ set → ⊥) refl
    (λ x xs e. rw (eq-eqb set x (sym e))) (λ x xs n. rw (ne_eqb set x (λ e. n (sym e)), add-one))

-- ---- whether it is there, by its place

pub place-within : (sets : List ℕ) (set : ℕ) → place_of eqb sets set ≤ length sets
unfolding place_of
place-within [] set = omega arith
place-within (other ∷ sets) set =
    let rest = place-within sets set in
    by-test (eqb set other) (λ e. rw e (omega arith)) (λ e. rw e (omega arith))

place-listed : (sets : List ℕ) (set : ℕ) → place_of eqb sets set < length sets → IsIn set sets
unfolding place_of
place-listed [] set h = absurd (omega arith)
place-listed (other ∷ sets) set h =
    by-test (eqb set other) (λ e. inl (eqb→eq set other (rw e tt)))
    (λ e. inr (place-listed sets set (omega (arith, (rw e at h)))))

pub among : (sets : List ℕ) (set : ℕ) → place_of eqb sets set < length sets → at_least_one (eqb set) sets ≡ true
among sets set h =
    same_tests _ true (λ t. tt) (λ t. (listed set sets).1 (place-listed sets set h))

pub not-among : (sets : List ℕ) (set : ℕ) → length sets ≤ place_of eqb sets set
    → at_least_one (eqb set) sets ≡ false
not-among sets set h =
    same_tests _ false (λ t. absurd (omega (arith, (placed eqb numbers-told 0 set sets ((listed set sets).0 t)).0)))
    (λ t. absurd t)
