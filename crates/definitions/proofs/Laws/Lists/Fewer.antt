-- A list in which no element stands twice has at most as many as any list that has them all; and a sum over it is at
-- most the sum over that list.
use Rattle.std.specs.Prelude.{◌≡◌, refl, List, [], ◌∷◌, ℕ, ◌+◌, ◌≤◌, eqb, length}
use Rattle.std.proofs.Common.{sym, ap, ◌∙◌, subst, inl, inr, arith, eqb→eq, eq-eqb}
use Rattle.definitions.specs.Lists.{if◌then◌else◌, sum_of, IsIn, Distinct}
use Rattle.definitions.proofs.Laws.Lists.Tests.{by-test}
use Rattle.definitions.proofs.Laws.Lists.Sums.{sum_ones}

-- the list without an element's first place
without : (x : ℕ) → List ℕ → List ℕ
without x [] = []
without x (y ∷ l) = if eqb x y then l else y ∷ without x l

without-sum : (f : ℕ → ℕ) (x : ℕ) (l : List ℕ) → IsIn x l → f x + sum_of f (without x l) ≡ sum_of f l
unfolding without sum_of
without-sum f x [] h = absurd h
without-sum f x (y ∷ l) (inl e) = rw (eq-eqb x y e) (ap (λ (z : ℕ). f z + sum_of f l) e)
without-sum f x (y ∷ l) (inr i) =
    let rest = without-sum f x l i in
    by-test (eqb x y) (λ e. rw e (ap (λ (z : ℕ). f z + sum_of f l) (eqb→eq x y (rw e tt))))
    (λ e. rw e (omega (arith, rest)))

without-others : (x z : ℕ) (l : List ℕ) → (z ≡ x → ⊥) → IsIn z l → IsIn z (without x l)
unfolding without
without-others x z [] other h = absurd h
without-others x z (y ∷ l) other (inl e) =
    by-test (eqb x y) (λ t. absurd (other (e ∙ sym (eqb→eq x y (rw t tt))))) (λ t. rw t (inl e))
without-others x z (y ∷ l) other (inr i) =
    let rest = without-others x z l other i in by-test (eqb x y) (λ t. rw t i) (λ t. rw t (inr rest))

pub Distinct-sum : (f : ℕ → ℕ) (k l : List ℕ) → Distinct k → ((x : ℕ) → IsIn x k → IsIn x l)
    → sum_of f k ≤ sum_of f l
unfolding sum_of
Distinct-sum f [] l u all = omega arith
Distinct-sum f (x ∷ k) l u all =
    let others : (z : ℕ) → IsIn z k → IsIn z (without x l) =
    λ z i. without-others x z l (λ e. u.0 (subst (λ y. IsIn y k) e i)) (all z (inr i)) in
    omega (arith, Distinct-sum f k (without x l) u.1 others, without-sum f x l (all x (inl refl)))

pub Distinct-few : (k l : List ℕ) → Distinct k → ((x : ℕ) → IsIn x k → IsIn x l) → length k ≤ length l
Distinct-few k l u all = omega (arith, Distinct-sum (λ x. 1) k l u all, sum_ones k, sum_ones l)
