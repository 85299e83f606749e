-- Laws about the order of lists of numbers, by the first that differs, the shorter first. Lists of matrices are such.
use Rattle.std.specs.Prelude.{◌≡◌, refl, ◌⊎◌, ◌↔◌, List, [], ◌∷◌, ◌++◌, ◌&&◌, ℕ, ◌<◌, T, ltb, eqb}
use Rattle.std.proofs.Common.{sym, ◌∙◌, inl, inr, ⊎_elim, arith, lt→ltb, ltb→lt, eqb→eq, ltb-true, ltb-false}
use Rattle.definitions.specs.Lists.{same, precedes}
use Rattle.definitions.proofs.Laws.Lists.Tests.{T_and, T-or, eq→eqb, by-test}

-- ---- lists of numbers, by the first that differs

-- a list stands before another
abbrev pub Before : List ℕ → List ℕ → Type 0
Before k l = T (precedes k l)

pub precedes-cons : (x y : ℕ) (k l : List ℕ) → Before (x ∷ k) (y ∷ l) ↔ ((x < y) ⊎ ((x ≡ y) × Before k l))
unfolding precedes
precedes-cons x y k l = (
  λ h. ⊎_elim (λ t. inl (ltb→lt x y t))
      (λ t. let (e, r) = (T_and (eqb x y) (precedes k l)).0 t in inr (eqb→eq x y e, r))
      ((T-or (ltb x y) (eqb x y && precedes k l)).0 h),
  λ h. (T-or (ltb x y) (eqb x y && precedes k l)).1
      (⊎_elim (λ t. inl (lt→ltb x y t))
      (λ p. inr ((T_and (eqb x y) (precedes k l)).1 (eq→eqb x y p.0, p.1))) h),
)

pub precedes-first : (x y : ℕ) (k l : List ℕ) → x < y → Before (x ∷ k) (y ∷ l)
precedes-first x y k l h = (precedes-cons x y k l).1 (inl h)

-- what both begin with decides nothing
pub precedes-after : (m k l : List ℕ) → Before k l → Before (m ++ k) (m ++ l)
precedes-after [] k l h = h
precedes-after (x ∷ m) k l h = (precedes-cons x x (m ++ k) (m ++ l)).1 (inr (refl, precedes-after m k l h))

-- no list precedes itself
pub precedes-irreflexive : (k : List ℕ) → Before k k → ⊥
unfolding precedes
precedes-irreflexive [] h = h
precedes-irreflexive (x ∷ k) h = go ((precedes-cons x x k k).0 h) (precedes-irreflexive k)
  where
    go : (x < x) ⊎ ((x ≡ x) × Before k k) → (Before k k → ⊥) → ⊥
    go (inl less) rest = omega arith
    go (inr both) rest = rest both.1

pub precedes-trans : (a b c : List ℕ) → Before a b → Before b c → Before a c
unfolding precedes
precedes-trans [] [] c h k = k
precedes-trans [] (y ∷ b) [] h k = absurd k
precedes-trans [] (y ∷ b) (z ∷ c) h k = tt
precedes-trans (x ∷ a) [] c h k = absurd h
precedes-trans (x ∷ a) (y ∷ b) [] h k = absurd k
precedes-trans (x ∷ a) (y ∷ b) (z ∷ c) h k =
    go ((precedes-cons x y a b).0 h) ((precedes-cons y z b c).0 k) (precedes-trans a b c)
  where
    go : (x < y) ⊎ ((x ≡ y) × Before a b) → (y < z) ⊎ ((y ≡ z) × Before b c)
        → (Before a b → Before b c → Before a c) → Before (x ∷ a) (z ∷ c)
    go (inl p) (inl q) rest = (precedes-cons x z a c).1 (inl (omega arith))
    go (inl p) (inr (e, q)) rest = (precedes-cons x z a c).1 (inl (omega arith))
    go (inr (d, p)) (inl q) rest = (precedes-cons x z a c).1 (inl (omega arith))
    go (inr (d, p)) (inr (e, q)) rest = (precedes-cons x z a c).1 (inr (d ∙ e, rest p q))

-- of two that differ one precedes the other
pub precedes-total : (a b : List ℕ) → (T (same a b) → ⊥) → (Before a b → ⊥) → Before b a
unfolding precedes same
precedes-total [] [] d h = absurd (d tt)
precedes-total [] (y ∷ b) d h = absurd (h tt)
precedes-total (x ∷ a) [] d h = tt
precedes-total (x ∷ a) (y ∷ b) d h = go (apart x y) (precedes-total a b)
  where
    apart : (x y : ℕ) → (x < y) ⊎ (x ≡ y) ⊎ (y < x)
    apart x y = by-test (ltb x y) (λ e. inl (ltb-true x y e))
        (λ e. by-test (ltb y x) (λ f. inr (inr (ltb-true y x f)))
        (λ f. inr (inl (omega (arith, ltb-false x y e, ltb-false y x f)))))

    go : (x < y) ⊎ (x ≡ y) ⊎ (y < x) → ((T (same a b) → ⊥) → (Before a b → ⊥) → Before b a)
        → Before (y ∷ b) (x ∷ a)
    go (inl l) rest = absurd (h ((precedes-cons x y a b).1 (inl l)))
    go (inr (inl e)) rest =
        (precedes-cons y x b a).1 (inr (
          sym e,
          rest (λ s. d ((T_and (eqb x y) (same a b)).1 (eq→eqb x y e, s)))
              (λ l. h ((precedes-cons x y a b).1 (inr (e, l)))),
        ))
    go (inr (inr l)) rest = (precedes-cons y x b a).1 (inl l)
