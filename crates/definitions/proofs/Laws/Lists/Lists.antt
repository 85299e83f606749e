-- Laws about the list vocabulary: tests of every element, lists that are the same, what the elements of joined
-- lists give, a part and a part of a part, counting up, buffers cleared and beyond their used words. The other
-- laws use them.
use Rattle.std.specs.Prelude.{◌≡◌, refl, ◌↔◌, List, [], ◌∷◌, ◌++◌, map, Bool, ◌&&◌, ℕ, zero, suc, ◌+◌, ◌-◌, ◌≤◌, ◌<◌, T, eqb, length, take, drop, get_or, replicate}
use Rattle.std.proofs.Common.{sym, ap, ap₂, ◌∙◌, subst, append_assoc, append-nil, add-zero, zero-add, arith, eqb→eq, take_at, get_or-take, get_or-drop, length-append, take-append-drop}
use Rattle.std.proofs.lemmas.List.{map-append, length-map, length-replicate}
use Rattle.std.proofs.Math.Bool.{and_assoc}
use Rattle.std.proofs.Math.Nat.{sub-zero, zero-sub}
use Rattle.std.proofs.Math.Dec.{eqb_refl}
use Rattle.std.proofs.Math.Seq.{take-nil}
use Rattle.definitions.specs.Lists.{◌!◌, every, concat_map, up_from, same, cleared, padded}
use Rattle.definitions.proofs.Laws.Lists.Tests.{T_and}

-- ---- tests of every element

pub every-cons : {A : Type 0} (test : A → Bool) (x : A) (l : List A)
    → T (every test (x ∷ l)) ↔ (T (test x) × T (every test l))
unfolding every
every-cons test x l = T_and (test x) (every test l)

pub every_append : {A : Type 0} (test : A → Bool) (k l : List A)
    → every test (k ++ l) ≡ (every test k && every test l)
unfolding every
every_append test [] l = refl
every_append test (x ∷ k) l =
    rw (every_append test k l) (sym (and_assoc (test x) (every test k) (every test l)))

-- all elements pass, so do those of a part
pub every-parts : {A : Type 0} (test : A → Bool) (k l : List A)
    → T (every test (k ++ l)) ↔ (T (every test k) × T (every test l))
every-parts test k l = rw (every_append test k l) (T_and (every test k) (every test l))

pub every-split : {A : Type 0} (test : A → Bool) (i : ℕ) (l : List A) → T (every test l)
    → T (every test (take i l)) × T (every test (drop i l))
every-split test i l h =
    (every-parts test (take i l) (drop i l)).0 (subst (λ k. T (every test k)) (sym (take-append-drop i l)) h)

pub every-replicate : {A : Type 0} (test : A → Bool) (count : ℕ) (x : A) → T (test x)
    → T (every test (replicate count x))
unfolding every
every-replicate test zero x h = tt
every-replicate test (suc count) x h =
    (every-cons test x (replicate count x)).1 (h, every-replicate test count x h)

-- ---- lists that are the same

pub same_lists : (k l : List ℕ) → T (same k l) → k ≡ l
unfolding same
same_lists [] [] h = refl
same_lists [] (y ∷ l) h = absurd h
same_lists (x ∷ k) [] h = absurd h
same_lists (x ∷ k) (y ∷ l) h =
    let (first, rest) = (T_and (eqb x y) (same k l)).0 h in
    ap₂ (λ (z : ℕ) (m : List ℕ). z ∷ m) (eqb→eq x y first) (same_lists k l rest)

pub same_self : (l : List ℕ) → T (same l l)
unfolding same
same_self [] = tt
same_self (x ∷ l) = (T_and (eqb x x) (same l l)).1 (eqb_refl x, same_self l)

pub same-is : (k l : List ℕ) → T (same k l) ↔ (k ≡ l)
same-is k l = (same_lists k l, λ e. rw (sym e) (same_self k))

-- ---- the lists that elements give, one after the other

pub concat_map-append : {A B : Type 0} (f : A → List B) (k l : List A)
    → concat_map f (k ++ l) ≡ concat_map f k ++ concat_map f l
unfolding concat_map
concat_map-append f [] l = refl
concat_map-append f (x ∷ k) l =
    ap (λ m. f x ++ m) (concat_map-append f k l) ∙ sym (append_assoc (f x) (concat_map f k) (concat_map f l))

pub concat_map-map : {A B C : Type 0} (f : B → List C) (g : A → B) (l : List A)
    → concat_map f (map g l) ≡ concat_map (λ x. f (g x)) l
unfolding concat_map
concat_map-map f g [] = refl
concat_map-map f g (x ∷ l) = ap (λ m. f (g x) ++ m) (concat_map-map f g l)

pub map-concat_map : {A B C : Type 0} (f : B → C) (g : A → List B) (l : List A)
    → map f (concat_map g l) ≡ concat_map (λ x. map f (g x)) l
unfolding concat_map
map-concat_map f g [] = refl
map-concat_map f g (x ∷ l) =
    map-append f (g x) (concat_map g l) ∙ ap (λ m. map f (g x) ++ m) (map-concat_map f g l)

-- one element more, at the end
pub concat_map-snoc : {A B : Type 0} (f : A → List B) (l : List A) (x : A)
    → concat_map f (l ++ (x ∷ [])) ≡ concat_map f l ++ f x
unfolding concat_map
concat_map-snoc f l x = concat_map-append f l (x ∷ []) ∙ ap (λ m. concat_map f l ++ m) (append-nil (f x))

-- ---- what each element gives

pub map_at : {A B : Type 0} (f : A → B) (l : List A) (a : A) (b : B) (i : ℕ) → i < length l
    → get_or (map f l) i b ≡ f (get_or l i a)
map_at f [] a b i h = absurd (omega arith)
map_at f (x ∷ l) a b zero h = refl
map_at f (x ∷ l) a b (suc i) h = map_at f l a b i (omega arith)

-- where that changes no list, it changes no element
pub same_at : {A : Type 0} (f : A → A) (l : List A) (a : A) (i : ℕ) → i < length l → map f l ≡ l
    → f (get_or l i a) ≡ get_or l i a
same_at f l a i h e = sym (map_at f l a a i h) ∙ ap (λ (k : List _). get_or k i a) e

-- ---- so many numbers are those at their places

pub three : (l : List ℕ) → length l ≡ 3 → l ! 0 ∷ l ! 1 ∷ l ! 2 ∷ [] ≡ l
three [] e = absurd (omega arith)
three (a ∷ []) e = absurd (omega arith)
three (a ∷ b ∷ []) e = absurd (omega arith)
three (a ∷ b ∷ c ∷ []) e = refl
three (a ∷ b ∷ c ∷ d ∷ l) e = absurd (omega arith)

pub four : (l : List ℕ) → length l ≡ 4 → l ! 0 ∷ l ! 1 ∷ l ! 2 ∷ l ! 3 ∷ [] ≡ l
four [] e = absurd (omega arith)
four (a ∷ l) e = ap (λ (r : List ℕ). a ∷ r) (three l (omega arith))

pub five : (l : List ℕ) → length l ≡ 5 → l ! 0 ∷ l ! 1 ∷ l ! 2 ∷ l ! 3 ∷ l ! 4 ∷ [] ≡ l
five [] e = absurd (omega arith)
five (a ∷ l) e = ap (λ (r : List ℕ). a ∷ r) (four l (omega arith))

-- ---- a part, and a part of a part

-- an element of a part, by its place in the whole
pub part_at : {A : Type 0} (size from : ℕ) (l : List A) (i : ℕ) (d : A) → i < size
    → get_or (take size (drop from l)) i d ≡ get_or l (from + i) d
part_at size from l i d h = get_or-take size (drop from l) i d h ∙ get_or-drop from l i d

pub drop-take : {A : Type 0} (count more : ℕ) (l : List A)
    → drop count (take (count + more) l) ≡ take more (drop count l)
drop-take zero more l = rw zero-add
drop-take (suc count) more [] =
    let next : suc count + more ≡ suc (count + more) = omega arith in rw next (sym (take-nil more))
drop-take (suc count) more (x ∷ l) =
    let next : suc count + more ≡ suc (count + more) = omega arith in rw next (drop-take count more l)

-- ---- counting up

pub up_from-length : (a count : ℕ) → length (up_from a count) ≡ count
unfolding up_from
up_from-length a zero = refl
up_from-length a (suc count) = ap suc (up_from-length (suc a) count)

-- in two parts
pub up_from-parts : (a k n : ℕ) → up_from a (k + n) ≡ up_from a k ++ up_from (a + k) n
unfolding up_from
up_from-parts a zero n = rw (zero-add n, add-zero a)
up_from-parts a (suc k) n =
    let more : suc k + n ≡ suc (k + n) = omega arith in
    let next : suc a + k ≡ a + suc k = omega arith in
    rw more (ap (λ (l : List ℕ). a ∷ l) (up_from-parts (suc a) k n ∙ rw next))

-- one number more, at the end
pub up_from-snoc : (a count : ℕ) → up_from a (count + 1) ≡ up_from a count ++ ((a + count) ∷ [])
unfolding up_from
up_from-snoc a count = up_from-parts a count 1

-- what each of the numbers gives
pub map-up_from-length : {A : Type 0} (f : ℕ → A) (a count : ℕ) → length (map f (up_from a count)) ≡ count
map-up_from-length f a count = length-map (up_from a count) f ∙ up_from-length a count

pub map-up_from-get : {A : Type 0} (f : ℕ → A) (d : A) (a count i n : ℕ) → i < count → n ≡ a + i
    → get_or (map f (up_from a count)) i d ≡ f n
unfolding up_from
map-up_from-get f d a zero i n h e = absurd (omega arith)
map-up_from-get f d a (suc count) zero n h e = ap f {x = a} {y = n} (omega arith)
map-up_from-get f d a (suc count) (suc i) n h e = map-up_from-get f d (suc a) count i n (omega arith) (omega arith)

pub map-up_from-at : (f : ℕ → ℕ) (a count i n : ℕ) → i < count → n ≡ a + i → map f (up_from a count) ! i ≡ f n
map-up_from-at f a count i n h e = map-up_from-get f 0 a count i n h e

-- ---- a lent buffer that was cleared

pub clear-length : (l l' : List ℕ) → l' ≡ cleared (length l) → length l' ≡ length l
clear-length l l' e = ap length e ∙ length-replicate (length l) 0

pub clear-itself : (l l' : List ℕ) → l' ≡ cleared (length l) → l' ≡ cleared (length l')
clear-itself l l' e = e ∙ ap cleared (sym (clear-length l l' e))

-- ---- a lent buffer that begins with its used words

pub padded-none : (size : ℕ) → cleared size ≡ padded size []
unfolding padded
padded-none size = rw sub-zero

pub drop-cleared : (count size : ℕ) → drop count (cleared size) ≡ cleared (size - count)
drop-cleared zero size = rw sub-zero
drop-cleared (suc count) zero = rw zero-sub
drop-cleared (suc count) (suc size) =
    let fewer : suc size - suc count ≡ size - count = omega arith in rw fewer (drop-cleared count size)

pub padded-length : (size : ℕ) (used : List ℕ) → length used ≤ size → length (padded size used) ≡ size
unfolding padded
padded-length size used h = simp (length-append, length-replicate) (omega arith)

pub padded-take : (size count : ℕ) (used : List ℕ) → count ≡ length used → take count (padded size used) ≡ used
unfolding padded
padded-take size count used e = take_at used (cleared (size - length used)) count (sym e)
