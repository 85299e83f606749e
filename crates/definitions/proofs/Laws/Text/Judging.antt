-- Laws about judging: the first test that fails answers, and an answer says that every test passed.
-- What reading or an entry answered is taken apart by these.
use Rattle.std.specs.Prelude.{◌≡◌, Bool, not, ◌&&◌, ℕ, ◌<◌, length, get_or}
use Rattle.std.proofs.Math.Path.{refl}
use Rattle.std.proofs.Common.{◌∙◌, arith}
use mathlib.Core.List.{List, [], ◌∷◌, ◌++◌}
use Rattle.std.proofs.Math.Bool.{true, false}
use Rattle.std.proofs.Math.Dec.{T}
use Rattle.definitions.specs.declared.Fault.{Fault}
use Rattle.definitions.specs.declared.Fault.TheVariants.{Count}
use Rattle.definitions.specs.Lists.{if◌then◌else◌, every}
use Rattle.definitions.specs.Faults.{Outcome, answered, refused, refuse, Test, ◌unless◌, judge, and_then}
use Rattle.definitions.proofs.Laws.Lists.Tests.{T_and, every-at, if-true, if-false}

abbrev pub AllPass : List Test → Type 0
AllPass ts = T (every (λ t. t.passes) ts)

-- tests that pass, one by one
pub pass-none : AllPass []
unfolding every
pass-none = tt

pub pass-more : (t : Test) (ts : List Test) → T t.passes → AllPass ts → AllPass (t ∷ ts)
unfolding every
pass-more t ts h k = (T_and t.passes (every (λ t. t.passes) ts)).1 (h, k)

-- a test among those that pass, by its place
abbrev pub test_at : List Test → ℕ → Test
test_at ts i = get_or ts i (Count unless true)

pub passes_at : (ts : List Test) → AllPass ts → (i : ℕ) → i < length ts → T (test_at ts i).passes
passes_at ts h = every-at (λ t. t.passes) ts _ h

-- no outcome is both a refusal and an answer
pub refused-not-answered : {A : Type 0} (o : Outcome A) (fault : Fault) (line : ℕ) (a : A)
    → o ≡ refuse fault line → o ≡ answered a → ⊥
refused-not-answered o fault line a p q = let z : ◌≡◌ {A = ℕ} 0 1 = cc in omega arith

module _ {A : Type 0} (line : ℕ) where
  -- where all tests pass, the answer stands
  pub judge-passing : (ts : List Test) (answer : Outcome A) → AllPass ts → judge line ts answer ≡ answer
  unfolding judge every
  judge-passing [] answer h = refl
  judge-passing (t ∷ ts) answer h =
      let parts : T t.passes × AllPass ts = (T_and t.passes (every (λ t. t.passes) ts)).0 h in
      if-true t.passes _ _ parts.0 ∙ judge-passing ts answer parts.1

  -- where the tests before it pass, a test that fails refuses with its fault
  judge-failing : (ts : List Test) (t : Test) (us : List Test) (answer : Outcome A)
      → AllPass ts → T (not t.passes) → judge line (ts ++ (t ∷ us)) answer ≡ refuse t.fault line
  unfolding judge every
  judge-failing [] t us answer h n = if-false t.passes _ _ n
  judge-failing (s ∷ ts) t us answer h n =
      let parts : T s.passes × AllPass ts = (T_and s.passes (every (λ t. t.passes) ts)).0 h in
      if-true s.passes _ _ parts.0 ∙ judge-failing ts t us answer parts.1 n

  -- an answer says that every test passed
  pub judge-answered : (ts : List Test) (answer : Outcome A) (a : A)
      → judge line ts answer ≡ answered a → AllPass ts × (answer ≡ answered a)
  unfolding judge every
  judge-answered [] answer a e = (tt, e)
  judge-answered (t ∷ ts) answer a e = go t.passes (λ k. judge-answered ts answer a k) e
    where
      go : (b : Bool) → (judge line ts answer ≡ answered a → AllPass ts × (answer ≡ answered a))
          → (if b then judge line ts answer else refuse t.fault line) ≡ answered a
          → T (b && every (λ t. t.passes) ts) × (answer ≡ answered a)
      go true rest k = rest k
      go false rest k = absurd (refused-not-answered _ t.fault line a refl k)

-- an answer under one test says that it passed
pub test-answered : {A : Type 0} (b : Bool) (fault : Fault) (line : ℕ) (x a : A)
    → (if b then answered x else refuse fault line) ≡ answered a → T b × (x ≡ a)
test-answered true fault line x a e = (tt, cc)
test-answered false fault line x a e = absurd (refused-not-answered _ fault line a refl e)

-- an answer after two steps says that each answered
pub and_then-answered : {A B : Type 0} (o : Outcome A) (next : A → Outcome B) (b : B)
    → and_then o next ≡ answered b → (a : A) × (o ≡ answered a) × (next a ≡ answered b)
unfolding and_then
and_then-answered (answered a) next b e = (a, refl, e)
and_then-answered (refused r) next b e = absurd (refused-not-answered _ r.fault r.line b refl e)
