-- The test for joined states tells them apart, and the two with which a join begins are two.
use Rattle.std.specs.Prelude.{◌≡◌, [], ◌∷◌, ℕ, T, eqb}
use Rattle.std.proofs.Common.{ap, ap₂, ⊎_elim, arith, eqb→eq}
use Rattle.std.proofs.Math.Dec.{eqb_refl}
use Rattle.definitions.specs.Lists.{Distinct}
use Rattle.definitions.specs.Arcs.{INITIAL, FINAL}
use Rattle.definitions.specs.Joining.{◌⊚◌, Joined, joined, same_joined}
use Rattle.definitions.proofs.Laws.Lists.Tests.{T-three, Tells}

-- "State 0 is INITIAL with 0, 0; state 1 is FINAL with 0, 2"
abbrev pub start : Joined
start = joined INITIAL 0 0

abbrev pub end : Joined
end = joined FINAL 0 2

pub first-Distinct : Distinct (start ∷ end ∷ [])
first-Distinct = (⊎_elim (λ e. other e) (λ h. h), ((λ h. h), tt))
  where
    other : start ≡ end → ⊥
    other e = let z : ◌≡◌ {A = ℕ} 0 1 = ap (λ (x : Joined). x.state) e in omega arith

-- a state and a mark make a joined state
pub states-equal : (x y : Joined) → x.state ≡ y.state → x.mark ≡ y.mark → x ≡ y
states-equal x y e f = λ i. record { state = e i; mark = f i }

module _ (x y : Joined) where
  same-joined : T (same_joined x y) → x ≡ y
  unfolding same_joined
  same-joined h =
      let (s, w, m) =
      (T-three (eqb x.state y.state) (eqb x.mark.word y.mark.word) (eqb x.mark.mark y.mark.mark)
      ).0 h in
      states-equal x y (eqb→eq _ _ s) (ap₂ (λ (w m : ℕ). w ⊚ m) (eqb→eq _ _ w) (eqb→eq _ _ m))

joined-self : (x : Joined) → T (same_joined x x)
unfolding same_joined
joined-self x =
    (T-three (eqb x.state x.state) (eqb x.mark.word x.mark.word) (eqb x.mark.mark x.mark.mark)).1
    (eqb_refl x.state, eqb_refl x.mark.word, eqb_refl x.mark.mark)

pub joined-told : Tells same_joined
joined-told = record { same_equal = same-joined; self = joined-self }
