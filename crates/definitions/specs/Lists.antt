-- The vocabulary on lists that all definitions share, beside the library's own.
use Rattle.std.specs.Prelude.{if◌then◌else◌, ◌≡◌, ◌⊎◌, List, [], ◌∷◌, ◌++◌, Bool, true, false, ◌&&◌, ◌||◌, ℕ, zero, suc, ◌+◌, ◌-◌, ltb, eqb, length, take, drop, get_or, replicate}
use Rattle.std.proofs.Math.Option.{Option, none, some}

-- the number at a place of a list, 0 beyond its end
infixl 80 ◌!◌
abbrev pub ◌!◌ : List ℕ → ℕ → ℕ
l ! i = get_or l i 0

-- whether every element, or some element, passes a test
unfoldable pub every : {A : Type 0} → (A → Bool) → List A → Bool
every test [] = true
every test (x ∷ l) = test x && every test l

unfoldable pub at_least_one : {A : Type 0} → (A → Bool) → List A → Bool
at_least_one test [] = false
at_least_one test (x ∷ l) = test x || at_least_one test l

-- the elements that pass a test, in order
unfoldable pub select : {A : Type 0} → (A → Bool) → List A → List A
select test [] = []
select test (x ∷ l) = if test x then x ∷ select test l else select test l

-- the first element that passes a test
unfoldable pub first_where : {A : Type 0} → (A → Bool) → List A → Option A
first_where test [] = none
first_where test (x ∷ l) = if test x then some x else first_where test l

-- what an answer, if there is one, gives
unfoldable pub map_option : {A B : Type 0} → (A → B) → Option A → Option B
map_option f none = none
map_option f (some x) = some (f x)

-- whether the last element, if there is one, passes a test
unfoldable pub last_passes : {A : Type 0} → (A → Bool) → List A → Bool
last_passes test [] = true
last_passes test (x ∷ []) = test x
last_passes test (x ∷ y ∷ l) = last_passes test (y ∷ l)

-- the lists that the elements give, one after the other
unfoldable pub concat_map : {A B : Type 0} → (A → List B) → List A → List B
concat_map f [] = []
concat_map f (x ∷ l) = f x ++ concat_map f l

-- a, a+1, a+2, .., as many as `count`
unfoldable pub up_from : (a count : ℕ) → List ℕ
up_from a zero = []
up_from a (suc count) = a ∷ up_from (suc a) count

-- how often a number stands in a list
unfoldable pub occurrences : ℕ → List ℕ → ℕ
occurrences x [] = 0
occurrences x (y ∷ l) = if eqb x y then suc (occurrences x l) else occurrences x l

-- the sum of what the elements give
unfoldable pub sum_of : {A : Type 0} → (A → ℕ) → List A → ℕ
sum_of f [] = 0
sum_of f (x ∷ l) = f x + sum_of f l

-- the place of an element in a list, beyond its end where it is not in it
unfoldable pub place_of : {X : Type 0} → (X → X → Bool) → List X → X → ℕ
place_of same [] x = 0
place_of same (y ∷ l) x = if same x y then 0 else suc (place_of same l x)

-- whether two lists of numbers are the same
unfoldable pub same : List ℕ → List ℕ → Bool
same [] [] = true
same [] (y ∷ l) = false
same (x ∷ k) [] = false
same (x ∷ k) (y ∷ l) = eqb x y && same k l

-- whether one list of numbers stands before another: by the first number that differs, the shorter first
unfoldable pub precedes : List ℕ → List ℕ → Bool
precedes [] [] = false
precedes [] (y ∷ l) = true
precedes (x ∷ k) [] = false
precedes (x ∷ k) (y ∷ l) = ltb x y || (eqb x y && precedes k l)

-- the first `count` records of `size` numbers each
unfoldable pub records : (size count : ℕ) → List ℕ → List (List ℕ)
records size zero l = []
records size (suc count) l = take size l ∷ records size count (drop size l)

-- a lent buffer of `size` numbers, all 0
abbrev pub cleared : ℕ → List ℕ
cleared size = replicate size 0

-- a lent buffer of `size` numbers that begins with `used` and is 0 after it
unfoldable pub padded : ℕ → List ℕ → List ℕ
padded size used = used ++ cleared (size - length used)

-- x is an element of the list
abbrev pub IsIn : {A : Type 0} → A → List A → Type 0
IsIn x [] = ⊥
IsIn x (y ∷ l) = (x ≡ y) ⊎ IsIn x l

-- no element stands at two places
abbrev pub Distinct : {A : Type 0} → List A → Type 0
Distinct [] = Unit {0}
Distinct (x ∷ l) = (IsIn x l → ⊥) × Distinct l
