-- Laws about order: of lists of numbers, by the first that differs; and lists whose elements stand before
-- all later ones in some order. The leaves of a tree, the combinations of a book and the members of its classes
-- are such lists.
use Rattle.std.specs.Prelude.{refl, ◌⊎◌, List, [], ◌∷◌, ◌++◌, map, Bool, true, false, ◌&&◌, ℕ, zero, suc, ◌<◌, T, ltb, eqb, length, get_or}
use Rattle.std.proofs.Common.{inl, inr, arith, lt→ltb, ltb→lt}
use Rattle.definitions.specs.Lists.{if◌then◌else◌, select, last_passes, concat_map, up_from}
use Rattle.definitions.specs.Lists.{IsIn, Distinct}
use Rattle.definitions.proofs.Laws.Lists.Tests.{T_and, T-or}
use Rattle.definitions.proofs.Laws.Lists.Members.{of-append, of_map, of-concat_map, of-up_from, in-at}
use Rattle.definitions.proofs.Laws.Lists.Selected.{of-select}
use Rattle.std.specs.Prelude.{◌||◌}
use Rattle.std.proofs.Math.Dec.{eqb_refl}

-- ---- lists of numbers

-- the first number that differs is less
unfoldable pub precedes : List ℕ → List ℕ → Bool
precedes [] l = false
precedes (x ∷ k) [] = false
precedes (x ∷ k) (y ∷ l) = ltb x y || (eqb x y && precedes k l)

pub precedes-first : (x y : ℕ) (k l : List ℕ) → x < y → T (precedes (x ∷ k) (y ∷ l))
unfolding precedes
precedes-first x y k l h = (T-or (ltb x y) (eqb x y && precedes k l)).1 (inl (lt→ltb x y h))

-- what both begin with decides nothing
pub precedes-after : (m k l : List ℕ) → T (precedes k l) → T (precedes (m ++ k) (m ++ l))
unfolding precedes
precedes-after [] k l h = h
precedes-after (x ∷ m) k l h =
    let rest : Bool = precedes (m ++ k) (m ++ l) in
    (T-or (ltb x x) (eqb x x && rest)).1
    (inr ((T_and (eqb x x) rest).1 (eqb_refl x, precedes-after m k l h)))

-- no list precedes itself
pub precedes-irreflexive : (k : List ℕ) → T (precedes k k) → ⊥
unfolding precedes
precedes-irreflexive [] h = h
precedes-irreflexive (x ∷ k) h = go ((T-or (ltb x x) (eqb x x && precedes k k)).0 h) (precedes-irreflexive k)
  where
    go : T (ltb x x) ⊎ T (eqb x x && precedes k k) → (T (precedes k k) → ⊥) → ⊥
    go (inl less) rest = omega (arith, ltb→lt x x less)
    go (inr both) rest = rest ((T_and (eqb x x) (precedes k k)).0 both).1

-- ---- lists whose elements each stand before all later ones

abbrev pub Rising : {A : Type 0} → (A → A → Type 0) → List A → Type 0
Rising before [] = Unit {0}
Rising {A} before (x ∷ l) = ((y : A) → IsIn y l → before x y) × Rising before l

pub rising-at : {A : Type 0} (before : A → A → Type 0) (l : List A) (d : A) → Rising before l
    → (i j : ℕ) → i < j → j < length l → before (get_or l i d) (get_or l j d)
rising-at before [] d r i j h k = absurd (omega arith)
rising-at before (x ∷ l) d r i zero h k = absurd (omega arith)
rising-at before (x ∷ l) d r zero (suc j) h k = r.0 (get_or l j d) (in-at l j d (omega arith))
rising-at before (x ∷ l) d r (suc i) (suc j) h k =
    rising-at before l d r.1 i j (omega arith) (omega arith)

pub rising-append : {A : Type 0} (before : A → A → Type 0) (k l : List A) → Rising before k → Rising before l
    → ((x y : A) → IsIn x k → IsIn y l → before x y) → Rising before (k ++ l)
rising-append before [] l r s across = s
rising-append {A} before (x ∷ k) l r s across =
    (λ y h. go y (of-append y k l h), rising-append before k l r.1 s (λ y z i j. across y z (inr i) j))
  where
    go : (y : A) → IsIn y k ⊎ IsIn y l → before x y
    go y (inl i) = r.0 y i
    go y (inr i) = across x y (inl refl) i

-- where elements in order give lists, each in order
pub rising-concat_map : {A B : Type 0} (before : A → A → Type 0) (after : B → B → Type 0)
    → (f : A → List B) (l : List A) → Rising before l
    → ((x : A) → IsIn x l → Rising after (f x))
    → ((x y : A) (a b : B) → before x y → IsIn a (f x) → IsIn b (f y) → after a b)
    → Rising after (concat_map f l)
unfolding concat_map
rising-concat_map before after f [] r each across = tt
rising-concat_map {A} {B} before after f (x ∷ l) r each across =
    rising-append after (f x) (concat_map f l) (each x (inl refl))
    (rising-concat_map before after f l r.1 (λ y i. each y (inr i)) across) later
  where
    later : (a b : B) → IsIn a (f x) → IsIn b (concat_map f l) → after a b
    later a b i j = let (y, k, m) = of-concat_map f b l j in across x y a b (r.0 y k) i m

-- numbers that rise are each there once
pub rising-Distinct : (l : List ℕ) → Rising ◌<◌ l → Distinct l
rising-Distinct [] r = tt
rising-Distinct (x ∷ l) r = (λ i. omega (arith, r.0 x i), rising-Distinct l r.1)

pub rising-up_from : (a count : ℕ) → Rising ◌<◌ (up_from a count)
unfolding up_from
rising-up_from a zero = tt
rising-up_from a (suc count) = (λ y h. (of-up_from (suc a) count y h).0, rising-up_from (suc a) count)

-- the elements that pass a test stay in order
pub rising-select : {A : Type 0} (before : A → A → Type 0) (test : A → Bool) (l : List A) → Rising before l
    → Rising before (select test l)
unfolding select
rising-select before test [] r = tt
rising-select before test (x ∷ l) r = go (test x) (rising-select before test l r.1)
  where
    go : (b : Bool) → Rising before (select test l)
        → Rising before (if b then x ∷ select test l else select test l)
    go true rest = (λ y i. r.0 y (of-select test y l i).0, rest)
    go false rest = rest

-- and so do elements put for others, where that keeps the order of any two
pub rising-map : {A B : Type 0} (before : A → A → Type 0) (after : B → B → Type 0) (f : A → B)
    → ((x y : A) → before x y → after (f x) (f y)) → (l : List A) → Rising before l → Rising after (map f l)
rising-map before after f keeps [] r = tt
rising-map {A} {B} before after f keeps (x ∷ l) r = (later, rising-map before after f keeps l r.1)
  where
    later : (b : B) → IsIn b (map f l) → after (f x) b
    later b h = let (y, i, e) = of_map f b l h in rw e (keeps x y (r.0 y i))

-- the last of the elements before one stands before it
pub rising-last : {A : Type 0} (before : A → A → Bool) (done : List A) (x : A) (rest : List A)
    → Rising (λ a b. T (before a b)) (done ++ (x ∷ rest)) → T (last_passes (λ a. before a x) done)
unfolding last_passes
rising-last before [] x rest r = tt
rising-last before (a ∷ []) x rest r = r.0 x (inl refl)
rising-last before (a ∷ b ∷ done) x rest r = rising-last before (b ∷ done) x rest r.1
