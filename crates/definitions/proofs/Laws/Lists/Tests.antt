-- Laws about tests: of two or three parts, of one of two, of a choice, and of every element of a list.
-- They turn the Bool tests of the definitions into facts and back; the other laws use them.
use Rattle.std.specs.Prelude.{◌≡◌, refl, ◌⊎◌, ◌↔◌, List, [], ◌∷◌, Bool, true, false, not, ◌&&◌, ◌||◌, ℕ, zero, suc, ◌≤◌, ◌<◌, T, leb, eqb, length, get_or}
use Rattle.std.proofs.Common.{sym, ◌∙◌, subst, inl, inr, ⊎_elim, arith, leb→le, le→leb, eqb→eq}
use Rattle.std.proofs.Math.Dec.{eqb_refl}
use Rattle.std.proofs.lemmas.Bool.{not-true, not-false}
use Rattle.definitions.specs.Lists.{if◌then◌else◌, ◌!◌, every}

-- a test of two parts holds when both hold
pub T_and : (a b : Bool) → T (a && b) ↔ (T a × T b)
T_and true b = (λ h. (tt, h), λ h. h.1)
T_and false b = (λ h. absurd h, λ h. h.0)

pub T-three : (a b c : Bool) → T (a && b && c) ↔ (T a × T b × T c)
T-three true b c = (λ h. (tt, ((T_and b c).0 h).0, ((T_and b c).0 h).1), λ h. (T_and b c).1 (h.1, h.2))
T-three false b c = (λ h. absurd h, λ h. h.0)

-- a test of which one part is enough
pub T-or : (a b : Bool) → T (a || b) ↔ (T a ⊎ T b)
T-or true b = (λ h. inl tt, λ h. tt)
T-or false b = (λ h. inr h, ⊎_elim (λ h. absurd h) (λ h. h))

-- tests that follow from one another are the same
pub same_tests : (a b : Bool) → (T a → T b) → (T b → T a) → a ≡ b
same_tests true true f g = refl
same_tests true false f g = absurd (f tt)
same_tests false true f g = absurd (g tt)
same_tests false false f g = refl

pub eq→eqb : (m n : ℕ) → m ≡ n → T (eqb m n)
eq→eqb m n e = subst (λ (k : ℕ). T (eqb m k)) e (eqb_refl m)

pub T-eqb : (m n : ℕ) → T (eqb m n) ↔ (m ≡ n)
T-eqb m n = (eqb→eq m n, eq→eqb m n)

-- a number between two others
pub between : (low n high : ℕ) → T (leb low n && leb n high) ↔ ((low ≤ n) × (n ≤ high))
between low n high =
    let test = T_and (leb low n) (leb n high) in (
      λ h. let (a, b) = test.0 h in (leb→le low n a, leb→le n high b),
      λ (a, b). test.1 (le→leb low n a, le→leb n high b),
    )

-- and two tests more
pub between-and : (low n high : ℕ) (a b : Bool)
    → T (leb low n && leb n high && a && b) ↔ (((low ≤ n) × (n ≤ high)) × T a × T b)
between-and low n high a b =
    let range = between low n high in
    let parts = T-three (leb low n && leb n high) a b in (
      λ h. let (inside, first, second) = parts.0 h in (range.0 inside, first, second),
      λ (inside, first, second). parts.1 (range.1 inside, first, second),
    )

-- by whether a test holds
pub by-test : {P : Type 0} (b : Bool) → (b ≡ true → P) → (b ≡ false → P) → P
by-test true yes-case no-case = yes-case refl
by-test false yes-case no-case = no-case refl

-- a test that an answer stands for holds, or does not
pub held : {answer test : Bool} → answer ≡ test → not answer ≡ false → test ≡ true
held e h = sym e ∙ not-false _ h

pub failed : {answer test : Bool} → answer ≡ test → not answer ≡ true → test ≡ false
failed e h = sym e ∙ not-true _ h

-- a choice by a test that holds, or does not
pub if-true : {A : Type 0} (b : Bool) (x y : A) → T b → (if b then x else y) ≡ x
if-true true x y h = refl
if-true false x y h = absurd h

pub if-false : {A : Type 0} (b : Bool) (x y : A) → T (not b) → (if b then x else y) ≡ y
if-false true x y h = absurd h
if-false false x y h = refl

-- a test of a list of numbers holds when it holds at every place
pub every-at : {A : Type 0} (test : A → Bool) (l : List A) (d : A) → T (every test l)
    → (c : ℕ) → c < length l → T (test (get_or l c d))
unfolding every
every-at test [] d h c k = absurd (omega arith)
every-at test (x ∷ l) d h zero k = ((T_and (test x) (every test l)).0 h).0
every-at test (x ∷ l) d h (suc c) k = every-at test l d ((T_and (test x) (every test l)).0 h).1 c (omega arith)

pub every-from : (test : ℕ → Bool) (l : List ℕ) → ((c : ℕ) → c < length l → T (test (l ! c))) → T (every test l)
unfolding every
every-from test [] h = tt
every-from test (x ∷ l) h =
    (T_and (test x) (every test l)).1 (h 0 (omega arith), every-from test l (λ c k. h (suc c) (omega arith)))

-- a test that tells whether two things are the same
pub record Tells {X : Type 0} (same : X → X → Bool) : Type 0 where
  pub same_equal : (x y : X) → T (same x y) → x ≡ y
  pub self : (x : X) → T (same x x)
