-- Laws about matrices, a column at a time: what each operation leaves there, which phones, how large.
-- The width is the list's length, so one proof serves every width; a column beyond it is the empty set, so
-- few laws ask where a column stands. The laws about seven words, demand 3 and the code's proofs use them.
use Rattle.std.specs.Prelude.{◌≡◌, refl, ◌≢◌, ◌↔◌, List, [], ◌∷◌, ◌++◌, Bool, not, ◌&&◌, ℕ, zero, suc, ◌+◌, ◌-◌, ◌^◌, ◌≤◌, ◌<◌, T, leb, ltb, eqb, length, set, drop, replicate}
use Rattle.std.proofs.Common.{sym, ap, ◌∙◌, subst, add_comm, arith, eqb→eq, T_not, pow_pos, length-append, length-drop, length-set, get_or-drop, get_or-set_other, ext_get_or}
use Rattle.std.proofs.Math.Nat.{suc_inj}
use Rattle.std.proofs.Math.Dec.{not_T}
use Rattle.std.specs.Int.Bits.{bit_and, and_zero_r}
use Rattle.std.proofs.lemmas.List.{length-replicate, get_or-replicate, replicate-append-replicate, get_or_at, set_at}
use Rattle.std.proofs.Math.ListN.{get_or-append}
use Rattle.definitions.specs.Lists.{◌!◌, every}
use Rattle.definitions.specs.PhoneSets.{has, alone, all_phones, without}
use Rattle.definitions.specs.Matrices.{Matrix, root_matrix, yes_side, no_side, meet, shift, start_cut, valid}
use Rattle.definitions.specs.Matrices.{ends_here}
use Rattle.definitions.proofs.Laws.Lists.Tests.{every-at, every-from}
use Rattle.definitions.proofs.Laws.Matrices.PhoneSets.{has-and, has-without, has-alone, has_all}
use Rattle.definitions.proofs.Laws.Matrices.PhoneSets.{some-member, member-nonzero, same-members}
use Rattle.definitions.proofs.Laws.Matrices.PhoneSets.{alone-below, all-below, and-below-left}

-- ---- the meet of two matrices

pub meet-column : (a b : Matrix) (c : ℕ) → meet a b ! c ≡ bit_and (a ! c) (b ! c)
unfolding meet
meet-column [] [] c = refl
meet-column [] (y ∷ b) c = refl
meet-column (x ∷ a) [] c = sym (and_zero_r ((x ∷ a) ! c))
meet-column (x ∷ a) (y ∷ b) zero = refl
meet-column (x ∷ a) (y ∷ b) (suc c) = meet-column a b c

pub meet-has : (p : ℕ) (a b : Matrix) (c : ℕ) → has p (meet a b ! c) ≡ (has p (a ! c) && has p (b ! c))
meet-has p a b c = ap (has p) (meet-column a b c) ∙ has-and p (a ! c) (b ! c)

pub meet-length : (a b : Matrix) → length a ≡ length b → length (meet a b) ≡ length a
unfolding meet
meet-length [] [] e = refl
meet-length [] (y ∷ b) e = refl
meet-length (x ∷ a) [] e = sym e
meet-length (x ∷ a) (y ∷ b) e = ap suc (meet-length a b (suc_inj e))

-- ---- the shift

shift-column : (phones : ℕ) (m : Matrix) (c : ℕ) → c + 1 < length m → shift phones m ! c ≡ m ! (c + 1)
unfolding shift
shift-column n m c h =
    get_or-append (drop 1 m) _ 0 c (rw length-drop (omega arith))
    ∙ get_or-drop 1 m c 0 ∙ rw (add_comm 1 c)

pub shift-last : (phones w : ℕ) (m : Matrix) → length m ≡ suc w → shift phones m ! w ≡ all_phones phones
unfolding shift
shift-last n w m e = get_or_at (drop 1 m) (all_phones n) [] 0 w (rw length-drop (omega arith))

pub shift-length : (phones : ℕ) (m : Matrix) → 0 < length m → length (shift phones m) ≡ length m
unfolding shift
shift-length n m h = simp (length-append, length-drop) (omega arith)

pub shift-has : (p phones : ℕ) (m : Matrix) (c : ℕ) → c + 1 < length m
    → has p (shift phones m ! c) ≡ has p (m ! (c + 1))
shift-has p n m c h = ap (has p) (shift-column n m c h)

pub shift-last-has : (p phones w : ℕ) (m : Matrix) → length m ≡ suc w
    → has p (shift phones m ! w) ≡ (ltb 0 p && leb p phones)
shift-last-has p n w m e = ap (has p) (shift-last n w m e) ∙ has_all p n

-- ---- the two sides of a question: one column changes

-- a change that keeps the empty set empty may stand beyond the width
put-column : (f : ℕ → ℕ) → f 0 ≡ 0 → (m : Matrix) (i : ℕ) → set m i (f (m ! i)) ! i ≡ f (m ! i)
put-column f e [] i = sym e
put-column f e (x ∷ m) zero = refl
put-column f e (x ∷ m) (suc i) = put-column f e m i

-- what steps to a column and there does `f` is a store of what `f` gives
is_set : (side : ℕ → Matrix → Matrix) (f : ℕ → ℕ) → ((i : ℕ) → side i [] ≡ [])
    → ((x : ℕ) (m : Matrix) → side zero (x ∷ m) ≡ f x ∷ m)
    → ((i x : ℕ) (m : Matrix) → side (suc i) (x ∷ m) ≡ x ∷ side i m)
    → (i : ℕ) (m : Matrix) → side i m ≡ set m i (f (m ! i))
is_set side f none here on i [] = none i
is_set side f none here on zero (x ∷ m) = here x m
is_set side f none here on (suc i) (x ∷ m) =
    on i x m ∙ ap (λ (r : Matrix). x ∷ r) (is_set side f none here on i m)

pub yes-set : (position s : ℕ) (m : Matrix) → yes_side position s m ≡ set m position (bit_and (m ! position) s)
unfolding yes_side
yes-set i s = is_set (λ k. yes_side k s) (λ x. bit_and x s) (λ k. refl) (λ x m. refl) (λ k x m. refl) i

pub no-set : (position s : ℕ) (m : Matrix) → no_side position s m ≡ set m position (without (m ! position) s)
unfolding no_side
no-set i s = is_set (λ k. no_side k s) (λ x. without x s) (λ k. refl) (λ x m. refl) (λ k x m. refl) i

yes-column : (position s : ℕ) (m : Matrix) → yes_side position s m ! position ≡ bit_and (m ! position) s
yes-column i s m = rw yes-set (put-column (λ x. bit_and x s) refl m i)

no-column : (position s : ℕ) (m : Matrix) → no_side position s m ! position ≡ without (m ! position) s
unfolding without
no-column i s m = rw no-set (put-column (λ x. without x s) refl m i)

pub yes-other : (position s : ℕ) (m : Matrix) (c : ℕ) → c ≢ position → yes_side position s m ! c ≡ m ! c
yes-other i s m c h = rw yes-set (get_or-set_other m i c (bit_and (m ! i) s) 0 h)

pub no_other : (position s : ℕ) (m : Matrix) (c : ℕ) → c ≢ position → no_side position s m ! c ≡ m ! c
no_other i s m c h = rw no-set (get_or-set_other m i c (without (m ! i) s) 0 h)

pub yes-length : (position s : ℕ) (m : Matrix) → length (yes_side position s m) ≡ length m
yes-length i s m = simp (yes-set, length-set)

pub no_length : (position s : ℕ) (m : Matrix) → length (no_side position s m) ≡ length m
no_length i s m = simp (no-set, length-set)

pub yes-has : (p position s : ℕ) (m : Matrix)
    → has p (yes_side position s m ! position) ≡ (has p (m ! position) && has p s)
yes-has p i s m = ap (has p) (yes-column i s m) ∙ has-and p (m ! i) s

pub no-has : (p position s : ℕ) (m : Matrix)
    → has p (no_side position s m ! position) ≡ (has p (m ! position) && not (has p s))
no-has p i s m = ap (has p) (no-column i s m) ∙ has-without p (m ! i) s

-- ---- a root's matrix: all phones everywhere, then one column set

abbrev everywhere : (half phones : ℕ) → Matrix
everywhere half phones = replicate (half + half + 1) (all_phones phones)

root-set : (half phones p : ℕ) → root_matrix half phones p ≡ set (everywhere half phones) half (alone p)
unfolding root_matrix
root-set half n p =
    let side : Matrix = replicate half (all_phones n) in
    let width : half + suc half ≡ half + half + 1 = omega arith in
    sym (set_at side (all_phones n) side (alone p) half (length-replicate half (all_phones n)))
    ∙ rw (replicate-append-replicate half (suc half), width)

pub root-column : (half phones p : ℕ) → root_matrix half phones p ! half ≡ alone p
unfolding root_matrix
root-column half n p =
    let side : Matrix = replicate half (all_phones n) in
    get_or_at side (alone p) side 0 half (length-replicate half (all_phones n))

pub root-other : (half phones p c : ℕ) → c < half + half + 1 → c ≢ half
    → root_matrix half phones p ! c ≡ all_phones phones
root-other half n p c h k =
    rw root-set (get_or-set_other (everywhere half n) half c (alone p) 0 k)
    ∙ get_or-replicate (half + half + 1) c (all_phones n) 0 h

pub root-length : (half phones p : ℕ) → length (root_matrix half phones p) ≡ half + half + 1
root-length half n p = simp (root-set, length-set, length-replicate)

-- ---- the start of a sentence: the columns left of the centre are cut

pub start-column : (half : ℕ) (m : Matrix) (c : ℕ) → c < half → start_cut half m ! c ≡ bit_and (m ! c) (alone 1)
unfolding start_cut
start-column zero m c h = absurd (omega arith)
start-column (suc k) [] c h = refl
start-column (suc k) (x ∷ m) zero h = refl
start-column (suc k) (x ∷ m) (suc c) h = start-column k m c (omega arith)

pub start-other : (half : ℕ) (m : Matrix) (c : ℕ) → half ≤ c → start_cut half m ! c ≡ m ! c
unfolding start_cut
start-other zero m c h = refl
start-other (suc k) [] c h = refl
start-other (suc k) (x ∷ m) zero h = absurd (omega arith)
start-other (suc k) (x ∷ m) (suc c) h = start-other k m c (omega arith)

pub start-length : (half : ℕ) (m : Matrix) → length (start_cut half m) ≡ length m
unfolding start_cut
start-length zero m = refl
start-length (suc k) [] = refl
start-length (suc k) (x ∷ m) = ap suc (start-length k m)

pub start_has : (p half : ℕ) (m : Matrix) (c : ℕ) → c < half
    → has p (start_cut half m ! c) ≡ (has p (m ! c) && eqb p 1)
start_has p half m c h =
    ap (has p) (start-column half m c h) ∙ has-and p (m ! c) (alone 1)
    ∙ ap (λ (b : Bool). has p (m ! c) && b) (has-alone p 1 (omega arith))

-- ---- tests of every column

-- a column is not 0 exactly when it has a member
pub column-member : (s : ℕ) → T (not (eqb s 0)) ↔ ((p : ℕ) × T (has p s))
column-member s = (there, λ m. not_T (eqb s 0) (λ t. member-nonzero m.0 s m.1 (eqb→eq s 0 t)))
  where
    there : T (not (eqb s 0)) → (p : ℕ) × T (has p s)
    there h = some-member s (λ e. T_not (eqb s 0) h (subst (λ (z : ℕ). T (eqb z 0)) (sym e) tt))

pub valid-columns : (m : Matrix) → T (valid m) ↔ ((c : ℕ) → c < length m → (p : ℕ) × T (has p (m ! c)))
unfolding valid
valid-columns m = (
  λ h c k. (column-member (m ! c)).0 (every-at _ m 0 h c k),
  λ h. every-from _ m (λ c k. (column-member (m ! c)).1 (h c k)),
)

pub ends-columns : (half : ℕ) (m : Matrix)
    → T (ends_here half m) ↔ ((c : ℕ) → half < c → c < length m → T (has 1 (m ! c)))
unfolding ends_here
ends-columns half m = (each, whole)
  where
    right : List ℕ
    right = drop (half + 1) m

    each : T (every (has 1) right) → (c : ℕ) → half < c → c < length m → T (has 1 (m ! c))
    each h c l k =
        let place : half + 1 + (c - (half + 1)) ≡ c = omega arith in
        rw (get_or-drop, place) at (every-at (has 1) right 0 h (c - (half + 1)) (rw length-drop (omega arith)))

    whole : ((c : ℕ) → half < c → c < length m → T (has 1 (m ! c))) → T (every (has 1) right)
    whole h = every-from (has 1) right λ c k.
        rw get_or-drop (h (half + 1 + c) (omega arith) (omega (arith, length-drop (half + 1) m)))

-- ---- columns below 2 ^ phones, which every operation keeps

abbrev pub Below : (phones : ℕ) → Matrix → Type 0
Below phones m = (c : ℕ) → m ! c < 2 ^ phones

set_below : (phones : ℕ) (m : Matrix) (i v : ℕ) → Below phones m → v < 2 ^ phones → Below phones (set m i v)
set_below n [] i v h l c = h c
set_below n (x ∷ m) zero v h l zero = l
set_below n (x ∷ m) zero v h l (suc c) = h (suc c)
set_below n (x ∷ m) (suc i) v h l zero = h zero
set_below n (x ∷ m) (suc i) v h l (suc c) = set_below n m i v (λ c. h (suc c)) l c

replicate-below : (phones k v : ℕ) → v < 2 ^ phones → Below phones (replicate k v)
replicate-below n zero v l c = pow_pos n
replicate-below n (suc k) v l zero = l
replicate-below n (suc k) v l (suc c) = replicate-below n k v l c

append-below : (phones : ℕ) (a b : Matrix) → Below phones a → Below phones b → Below phones (a ++ b)
append-below n [] b h l c = l c
append-below n (x ∷ a) b h l zero = h zero
append-below n (x ∷ a) b h l (suc c) = append-below n a b (λ c. h (suc c)) l c

pub meet_below : (phones : ℕ) (a b : Matrix) → Below phones a → Below phones (meet a b)
meet_below n a b h c = rw meet-column (and-below-left n (a ! c) (b ! c) (h c))

pub yes-below : (phones position s : ℕ) (m : Matrix) → Below phones m → Below phones (yes_side position s m)
yes-below n i s m h = rw yes-set (set_below n m i (bit_and (m ! i) s) h (and-below-left n (m ! i) s (h i)))

pub no-below : (phones position s : ℕ) (m : Matrix) → Below phones m → Below phones (no_side position s m)
unfolding without
no-below n i s m h = rw no-set (set_below n m i (without (m ! i) s) h (let l = h i in omega arith))

pub shift-below : (phones : ℕ) (m : Matrix) → Below phones m → Below phones (shift phones m)
unfolding shift
shift-below n m h =
    let last = replicate-below n 1 (all_phones n) (all-below n) in
    append-below n (drop 1 m) (all_phones n ∷ []) (λ c. rw get_or-drop (h (1 + c))) last

pub start-below : (phones half : ℕ) (m : Matrix) → Below phones m → Below phones (start_cut half m)
unfolding start_cut
start-below n zero m h c = h c
start-below n (suc k) [] h c = h c
start-below n (suc k) (x ∷ m) h zero = and-below-left n x (alone 1) (h zero)
start-below n (suc k) (x ∷ m) h (suc c) = start-below n k m (λ c. h (suc c)) c

pub root_below : (half phones p : ℕ) → p ≤ phones → Below phones (root_matrix half phones p)
root_below half n p h =
    let full = replicate-below n (half + half + 1) (all_phones n) (all-below n) in
    rw root-set (set_below n (everywhere half n) half (alone p) full (alone-below n p h))

-- ---- matrices with the same members are the same

pub columns-same : (a b : Matrix) → length a ≡ length b
    → ((c : ℕ) → c < length a → (p : ℕ) → has p (a ! c) ≡ has p (b ! c)) → a ≡ b
columns-same a b e h = ext_get_or 0 a b e (λ c k. same-members (a ! c) (b ! c) (h c k))
