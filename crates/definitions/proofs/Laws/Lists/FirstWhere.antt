-- Laws about the first element of a list that passes a test: there is one where any passes, and one more element at
-- the end is the first only where none passed before. What B and R lines give is found so.
use Rattle.std.specs.Prelude.{◌≡◌, refl, List, [], ◌∷◌, ◌++◌, Bool, true, false, not, ◌||◌, T}
use Rattle.std.proofs.Common.{subst, inl, inr}
use Rattle.std.proofs.Math.Option.{Option, none, some}
use Rattle.definitions.specs.Lists.{if◌then◌else◌, at_least_one, first_where, IsIn}
use Rattle.definitions.proofs.Laws.Lists.Tests.{T-or, by-test, if-true}

pub first_some : {A : Type 0} (test : A → Bool) (l : List A) → T (at_least_one test l)
    → (x : A) × IsIn x l × T (test x) × (first_where test l ≡ some x)
unfolding at_least_one first_where
first_some test [] t = absurd t
first_some {A} test (y ∷ l) t = go (test y) refl t (λ k. first_some test l k)
  where
    go : (b : Bool) → test y ≡ b → T (b || at_least_one test l)
        → (T (at_least_one test l) → (x : A) × IsIn x l × T (test x) × (first_where test l ≡ some x))
        → (x : A) × IsIn x (y ∷ l) × T (test x) × ((if b then some y else first_where test l) ≡ some x)
    go true e t rest = (y, inl refl, rw e tt, refl)
    go false e t rest = let (x, i, h, q) = rest t in (x, inr i, h, q)

pub first-none : {A : Type 0} (test : A → Bool) (l : List A) → T (not (at_least_one test l))
    → first_where test l ≡ none
unfolding at_least_one first_where
first-none test [] t = refl
first-none {A} test (y ∷ l) t = go (test y) t (λ k. first-none test l k)
  where
    go : (b : Bool) → T (not (b || at_least_one test l))
        → (T (not (at_least_one test l)) → first_where test l ≡ none)
        → (if b then some y else first_where test l) ≡ none
    go true t rest = absurd t
    go false t rest = rest t

-- one that passes is at least one
pub in_some : {A : Type 0} (test : A → Bool) (l : List A) (x : A) → IsIn x l → T (test x)
    → T (at_least_one test l)
unfolding at_least_one
in_some test (y ∷ l) x (inl q) t = (T-or (test y) (at_least_one test l)).1 (inl (subst (λ z. T (test z)) q t))
in_some test (y ∷ l) x (inr i) t = (T-or (test y) (at_least_one test l)).1 (inr (in_some test l x i t))
in_some test [] x i t = absurd i

pub not-both : (b : Bool) → T b → T (not b) → ⊥
not-both true h n = n
not-both false h n = h

-- where none passes there is no first
pub none_first : {A : Type 0} (test : A → Bool) (l : List A) → ((x : A) → IsIn x l → T (test x) → ⊥)
    → first_where test l ≡ none
none_first test l h =
    by-test (at_least_one test l)
    (λ q. let (x, i, t, first) = first_some test l (rw q tt) in absurd (h x i t))
    (λ q. first-none test l (rw q tt))

-- an answer is not none
some-not-none : {A : Type 0} (y : A) → some y ≡ none → ⊥
some-not-none {A} y e = subst there e tt
  where
    there : Option A → Type 0
    there none = ⊥
    there (some x) = Unit {0}

-- one more element at the end
pub first-last : {A : Type 0} (test : A → Bool) (l : List A) (x : A) → first_where test l ≡ none → T (test x)
    → first_where test (l ++ (x ∷ [])) ≡ some x
unfolding first_where
first-last test [] x e t = rw (if-true (test x) (some x) none t)
first-last {A} test (y ∷ l) x e t = go (test y) e (λ k. first-last test l x k t)
  where
    go : (b : Bool) → (if b then some y else first_where test l) ≡ none
        → (first_where test l ≡ none → first_where test (l ++ (x ∷ [])) ≡ some x)
        → (if b then some y else first_where test (l ++ (x ∷ []))) ≡ some x
    go true e rest = absurd (some-not-none y e)
    go false e rest = rest e

pub first-other : {A : Type 0} (test : A → Bool) (l : List A) (x : A) → test x ≡ false
    → first_where test (l ++ (x ∷ [])) ≡ first_where test l
unfolding first_where
first-other test [] x e = rw e
first-other {A} test (y ∷ l) x e = go (test y) (first-other test l x e)
  where
    go : (b : Bool) → first_where test (l ++ (x ∷ [])) ≡ first_where test l
        → (if b then some y else first_where test (l ++ (x ∷ []))) ≡ (if b then some y else first_where test l)
    go true rest = refl
    go false rest = rest
