-- Laws about how often a number stands in a list: where each counts at most once, no element stands twice.
-- laws/books/NamedOnce reads "named exactly once" by them.
use Rattle.std.specs.Prelude.{◌≡◌, refl, List, [], ◌∷◌, ◌++◌, Bool, true, false, ℕ, zero, suc, ◌+◌, ◌≤◌, ◌<◌, eqb, length, set, replicate}
use Rattle.std.proofs.Common.{ap, inl, inr, arith, eqb-true}
use Rattle.std.proofs.lemmas.Bool.{eqb-false}
use Rattle.definitions.specs.Lists.{if◌then◌else◌, ◌!◌, occurrences, up_from, IsIn, Distinct}
use Rattle.definitions.proofs.Laws.Lists.Tests.{by-test, if-true, eq→eqb}

-- the first element counts one more than in the rest
occurrences-first : (x y : ℕ) (l : List ℕ) → x ≡ y → occurrences x (y ∷ l) ≡ suc (occurrences x l)
unfolding occurrences
occurrences-first x y l e = if-true (eqb x y) _ _ (eq→eqb x y e)

occurrences-rest : (x y : ℕ) (l : List ℕ) → occurrences x l ≤ occurrences x (y ∷ l)
unfolding occurrences
occurrences-rest x y l = go (eqb x y)
  where
    go : (b : Bool) → occurrences x l ≤ (if b then suc (occurrences x l) else occurrences x l)
    go true = omega arith
    go false = omega arith

pub occurrences-append : (x : ℕ) (k l : List ℕ) → occurrences x (k ++ l) ≡ occurrences x k + occurrences x l
unfolding occurrences
occurrences-append x [] l = omega arith
occurrences-append x (y ∷ k) l =
    let rest = occurrences-append x k l in
    by-test (eqb x y) (λ e. rw e (omega arith)) (λ e. rw e rest)

pub occurrences-left : (x : ℕ) (k l : List ℕ) → occurrences x k ≤ occurrences x (k ++ l)
occurrences-left x k l = omega (arith, occurrences-append x k l)

pub occurrences-least : (x : ℕ) (l : List ℕ) → occurrences x l ≤ length l
unfolding occurrences
occurrences-least x [] = omega arith
occurrences-least x (y ∷ l) =
    let rest = occurrences-least x l in
    by-test (eqb x y) (λ e. rw e (omega arith)) (λ e. rw e (omega arith))

occurs : (x : ℕ) (l : List ℕ) → IsIn x l → 1 ≤ occurrences x l
occurs x [] h = absurd h
occurs x (y ∷ l) (inl e) = omega (arith, occurrences-first x y l e)
occurs x (y ∷ l) (inr h) = omega (arith, occurs x l h, occurrences-rest x y l)

pub Distinct-once : (l : List ℕ) → ((x : ℕ) → IsIn x l → occurrences x l ≤ 1) → Distinct l
Distinct-once [] once = tt
Distinct-once (y ∷ l) once = (
  λ h. omega (arith, once y (inl refl), occurrences-first y y l refl, occurs y l h),
  Distinct-once l (λ x h. omega (arith, once x (inr h), occurrences-rest x y l)),
)

-- counting up names each number once
counted-beyond : (a count x : ℕ) → x < a → occurrences x (up_from a count) ≡ 0
unfolding up_from occurrences
counted-beyond a zero x h = refl
counted-beyond a (suc count) x h =
    by-test (eqb x a) (λ e. absurd (omega (arith, eqb-true x a e)))
    (λ e. rw e (counted-beyond (suc a) count x (omega arith)))

pub counted-once : (a count x : ℕ) → a ≤ x → x < a + count → occurrences x (up_from a count) ≡ 1
unfolding up_from occurrences
counted-once a zero x h k = absurd (omega arith)
counted-once a (suc count) x h k =
    by-test (eqb x a)
    (λ e. rw e (ap suc (counted-beyond (suc a) count x (omega (arith, eqb-true x a e)))))
    (λ e. rw e (counted-once (suc a) count x (omega (arith, eqb-false x a e)) (omega arith)))

-- one word put where another number stood
pub occurrences-set : (x : ℕ) (l : List ℕ) (i v : ℕ) → i < length l → eqb x (l ! i) ≡ false
    → occurrences x (set l i v) ≡ occurrences x l + occurrences x (v ∷ [])
unfolding occurrences
occurrences-set x [] i v h e = absurd (omega arith)
occurrences-set x (y ∷ l) zero v h e = rw e (by-test (eqb x v) (λ q. rw q (omega arith)) (λ q. rw q (omega arith)))
occurrences-set x (y ∷ l) (suc i) v h e =
    let rest = occurrences-set x l i v (omega arith) e in
    by-test (eqb x y) (λ q. rw q (omega (arith, rest))) (λ q. rw q rest)

-- a number that none of the words is
pub occurrences-other : (x word count : ℕ) → eqb x word ≡ false → occurrences x (replicate count word) ≡ 0
unfolding occurrences
occurrences-other x word zero e = refl
occurrences-other x word (suc count) e = rw e (occurrences-other x word count e)
