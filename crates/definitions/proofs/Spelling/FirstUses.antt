-- Laws about the classes of a plain form: every set that is used has a class, each class another set, and every
-- set was used. So there are no more classes than a book had. The laws about the plain form use them.
use Rattle.std.proofs.Common.{sym, subst, inl, inr, ⊎_elim}
use Rattle.std.specs.Prelude.{◌⊎◌, List, [], ◌∷◌, ◌++◌, ℕ, T, eqb}
use Rattle.definitions.specs.Lists.{if◌then◌else◌, at_least_one, IsIn, Distinct}
use Rattle.definitions.specs.PlainForm.{first_uses}
use Rattle.definitions.proofs.Laws.Lists.Tests.{by-test}
use Rattle.definitions.proofs.Laws.Lists.Members.{in_left, in_right, of-append, of-single, listed}
use Rattle.definitions.proofs.Laws.Lists.Members.{distinct_more}

-- one use more
step : (P : List ℕ → Type 0) (seen : List ℕ) (set : ℕ) → (IsIn set seen → P seen)
    → ((IsIn set seen → ⊥) → P (seen ++ (set ∷ [])))
    → P (if at_least_one (eqb set) seen then seen else seen ++ (set ∷ []))
step P seen set old new =
    by-test (at_least_one (eqb set) seen) (λ e. rw e (old ((listed set seen).0 (rw e tt))))
    (λ e. rw e (new (λ i. subst T e ((listed set seen).1 i))))

-- what was seen stays
seen-stays : (seen sets : List ℕ) (x : ℕ) → IsIn x seen → IsIn x (first_uses seen sets)
unfolding first_uses
seen-stays seen [] x i = i
seen-stays seen (set ∷ sets) x i =
    seen-stays (if at_least_one (eqb set) seen then seen else seen ++ (set ∷ [])) sets x (step (IsIn x) seen set (λ h. i) (λ h. in_left x seen (set ∷ []) i))

-- what is used has a class
pub used-first : (seen sets : List ℕ) (x : ℕ) → IsIn x sets → IsIn x (first_uses seen sets)
unfolding first_uses
used-first seen [] x i = absurd i
used-first seen (set ∷ sets) x (inl q) =
    seen-stays (if at_least_one (eqb set) seen then seen else seen ++ (set ∷ [])) sets x
    (step (IsIn x) seen set (λ h. subst (λ s. IsIn s seen) (sym q) h) (λ h. in_right x seen (set ∷ []) (inl q)))
used-first seen (set ∷ sets) x (inr i) = used-first (if at_least_one (eqb set) seen then seen else seen ++ (set ∷ [])) sets x i

-- and no other has
pub first-used : (seen sets : List ℕ) (x : ℕ) → IsIn x (first_uses seen sets) → IsIn x seen ⊎ IsIn x sets
unfolding first_uses
first-used seen [] x i = inl i
first-used seen (set ∷ sets) x i =
    ⊎_elim (step (λ l. IsIn x l → IsIn x seen ⊎ IsIn x (set ∷ sets)) seen set (λ h j. inl j) (λ h. more))
    (λ j. inr (inr j)) (first-used (if at_least_one (eqb set) seen then seen else seen ++ (set ∷ [])) sets x i)
  where
    more : IsIn x (seen ++ (set ∷ [])) → IsIn x seen ⊎ IsIn x (set ∷ sets)
    more j = ⊎_elim (λ k. inl k) (λ k. inr (inl (of-single set x k))) (of-append x seen (set ∷ []) j)

-- "Classes with the same members become one"
pub uses-Distinct : (seen sets : List ℕ) → Distinct seen → Distinct (first_uses seen sets)
unfolding first_uses
uses-Distinct seen [] u = u
uses-Distinct seen (set ∷ sets) u =
    uses-Distinct (if at_least_one (eqb set) seen then seen else seen ++ (set ∷ [])) sets (step Distinct seen set (λ h. u) (λ new. distinct_more seen set u new))
