-- Laws about sums over lists. A sum over names that are all below a bound is the sum over all numbers
-- below it, each counted as often as it is named. So where each is named once, both sums are the same.
-- spelling/TreeSizes counts the nodes of trees by them, without telling which node stands where.
use Rattle.std.specs.Prelude.{◌≡◌, List, [], ◌∷◌, ◌++◌, map, eqb, length}
use Rattle.std.proofs.Math.Path.{refl}
use Rattle.std.proofs.Common.{sym, ap, ap₂, ◌∙◌, inl, inr, mul-suc, arith}
use Prim.Native.Nat.{ℕ, zero, suc, ◌+◌, ◌*◌, ◌≤◌, ◌<◌}
use Rattle.std.proofs.Math.Nat.{suc-mul}
use borrow.Author.Tests.{eqb-true, eqb-false}
use Rattle.definitions.specs.Lists.{concat_map, up_from, occurrences, sum_of, IsIn}
use Rattle.definitions.proofs.Laws.Lists.Tests.{by-test}

pub sum-append : {A : Type 0} (f : A → ℕ) (k l : List A) → sum_of f (k ++ l) ≡ sum_of f k + sum_of f l
unfolding sum_of
sum-append f [] l = omega arith
sum-append f (x ∷ k) l = omega (arith, sum-append f k l)

pub sum_ones : {A : Type 0} (l : List A) → sum_of (λ x. 1) l ≡ length l
unfolding sum_of
sum_ones [] = refl
sum_ones (x ∷ l) = omega (arith, sum_ones l)

pub sum-map : {A B : Type 0} (f : B → ℕ) (g : A → B) (l : List A) → sum_of f (map g l) ≡ sum_of (λ x. f (g x)) l
unfolding sum_of
sum-map f g [] = refl
sum-map f g (x ∷ l) = ap (λ (n : ℕ). f (g x) + n) (sum-map f g l)

-- sums of what is more at each element, and of two together
pub sum_less : {A : Type 0} (f g : A → ℕ) (l : List A) → ((x : A) → f x ≤ g x) → sum_of f l ≤ sum_of g l
unfolding sum_of
sum_less f g [] less = omega arith
sum_less f g (x ∷ l) less = omega (arith, less x, sum_less f g l less)

-- at most so much at each element
pub sum-most : {A : Type 0} (f : A → ℕ) (most : ℕ) (l : List A) → ((x : A) → f x ≤ most) → sum_of f l ≤ most * length l
unfolding sum_of
sum-most f most [] few = omega arith
sum-most f most (x ∷ l) few = omega (arith, few x, sum-most f most l few, mul-suc most (length l))

-- sums of what is the same at each element, and of what lists one after the other hold
pub sum_same : {A : Type 0} (f g : A → ℕ) (l : List A) → ((x : A) → IsIn x l → f x ≡ g x) → sum_of f l ≡ sum_of g l
unfolding sum_of
sum_same f g [] h = refl
sum_same f g (x ∷ l) h = ap₂ ◌+◌ (h x (inl refl)) (sum_same f g l (λ y i. h y (inr i)))

pub sum-concat_map : {A B : Type 0} (f : B → ℕ) (g : A → List B) (l : List A)
    → sum_of f (concat_map g l) ≡ sum_of (λ x. sum_of f (g x)) l
unfolding sum_of concat_map
sum-concat_map f g [] = refl
sum-concat_map f g (x ∷ l) = sum-append f (g x) (concat_map g l) ∙ ap (λ (n : ℕ). sum_of f (g x) + n) (sum-concat_map f g l)

pub sum_both : {A : Type 0} (f g : A → ℕ) (l : List A) → sum_of (λ x. f x + g x) l ≡ sum_of f l + sum_of g l
unfolding sum_of
sum_both f g [] = refl
sum_both f g (x ∷ l) = omega (arith, sum_both f g l)

-- counted as often as it stands among names
abbrev counted : (ℕ → ℕ) → (names : List ℕ) → (ℕ → ℕ)
counted f names x = occurrences x names * f x

sum-none : (f : ℕ → ℕ) (l : List ℕ) → sum_of (counted f []) l ≡ 0
unfolding sum_of occurrences
sum-none f [] = refl
sum-none f (x ∷ l) = omega (arith, sum-none f l)

module _ (f : ℕ → ℕ) (y : ℕ) (names : List ℕ) where
  abbrev before : (from count : ℕ) → ℕ
  before from count = sum_of (counted f names) (up_from from count)

  abbrev after : (from count : ℕ) → ℕ
  after from count = sum_of (counted f (y ∷ names)) (up_from from count)

  -- one name more counts at its own place, and not beyond it
  name-beyond : (from count : ℕ) → y < from → after from count ≡ before from count
  unfolding sum_of up_from occurrences
  name-beyond from zero h = refl
  name-beyond from (suc count) h =
      let rest = name-beyond (suc from) count (omega arith) in
      by-test (eqb from y) (λ e. absurd (omega (arith, eqb-true from y e))) (λ e. rw e (omega arith))

  name-more : (from count : ℕ) → from ≤ y → y < from + count → after from count ≡ f y + before from count
  unfolding sum_of up_from occurrences
  name-more from zero h k = absurd (omega arith)
  name-more from (suc count) h k =
      by-test (eqb from y)
      (λ e.
      let same : from ≡ y = eqb-true from y e in
      let rest = name-beyond (suc from) count (omega arith) in
      let here : f from ≡ f y = rw same in
      rw e (omega (arith, rest, here, suc-mul (occurrences from names) (f from))))
      (λ e.
      let other : from ≡ y → ⊥ = eqb-false from y e in
      let rest = name-more (suc from) count (omega (arith, other)) (omega arith) in
      rw e (omega (arith, rest)))

sum-names : (f : ℕ → ℕ) (names : List ℕ) (count : ℕ) → ((x : ℕ) → IsIn x names → x < count)
    → sum_of f names ≡ sum_of (counted f names) (up_from 0 count)
unfolding sum_of
sum-names f [] count low = sym (sum-none f (up_from 0 count))
sum-names f (y ∷ names) count low =
    let rest = sum-names f names count (λ x i. low x (inr i)) in
    omega (arith, name-more f y names 0 count (omega arith) (omega (arith, low y (inl refl))))

sum-each : (f : ℕ → ℕ) (names l : List ℕ) → ((x : ℕ) → IsIn x l → occurrences x names ≡ 1)
    → sum_of (counted f names) l ≡ sum_of f l
unfolding sum_of
sum-each f names [] once = refl
sum-each f names (x ∷ l) once =
    rw (once x (inl refl)) (omega (arith, sum-each f names l (λ y i. once y (inr i))))

-- names that are each number below a bound, once
pub sum-once : (f : ℕ → ℕ) (names : List ℕ) (count : ℕ) → ((x : ℕ) → IsIn x names → x < count)
    → ((x : ℕ) → IsIn x (up_from 0 count) → occurrences x names ≡ 1)
    → sum_of f names ≡ sum_of f (up_from 0 count)
sum-once f names count low once =
    omega (arith, sum-names f names count low, sum-each f names (up_from 0 count) once)
