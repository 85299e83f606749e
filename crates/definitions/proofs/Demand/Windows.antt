-- A matrix read as the set of windows that it admits: lists whose first phones its columns hold. The list
-- may be longer than the matrix, so the window at a place is the rest of a sequence from there on, and hardly
-- any index is computed. Meet, shift, validity, the end and the start of a sentence are used through these
-- five laws alone, trees through those of TreeWindows: nothing else in the proof looks inside a matrix
-- (Carrier.antt states both for a book, and all that stands above uses them so).
use Rattle.std.specs.Prelude.{◌≡◌, refl, ◌↔◌, List, [], ◌∷◌, ◌++◌, Bool, true, false, ◌&&◌, T, eqb, take, drop}
use Rattle.std.proofs.Common.{sym, ap₂, ◌∙◌, subst, length-take-le, take_at}
use Rattle.std.proofs.Math.Path.{ap}
use mathlib.Core.Logic.Iff
use Rattle.std.proofs.Math.Bool.{and_assoc, and-true}
use Prim.Native.Nat.{ℕ, zero, suc, ◌+◌, ◌^◌, ◌≤◌, ◌<◌}
use Rattle.std.proofs.Math.Nat.{suc_inj}
use native.Mathlib.Omega.{arith}
use Rattle.std.proofs.Math.ListN.{length, replicate, length-drop}
use Rattle.std.proofs.Math.Seq.{drop_at}
use Rattle.definitions.specs.Lists.{◌!◌, every, same}
use Rattle.definitions.specs.BookLines.{is_phone}
use Rattle.definitions.specs.PhoneSets.{has, alone, all_phones}
use Rattle.definitions.specs.Matrices.{Matrix, valid, meet, shift, start_cut, ends_here}
use Rattle.definitions.proofs.Laws.Lists.Tests.{T_and, every-at}
use Rattle.definitions.proofs.Laws.Lists.Lists.{every-cons, every-split, same-is}
use Rattle.definitions.proofs.Laws.Text.Ranges.{phone_range}
use Rattle.definitions.proofs.Laws.Matrices.PhoneSets.{has-none, has-and, has-alone, has_all, has-below}
use Rattle.definitions.proofs.Laws.Matrices.Matrices.{Below, column-member}

-- whether the columns of a matrix hold the first phones of a list, one each
unfoldable pub admits : Matrix → (W : List ℕ) → Bool
admits [] W = true
admits (column ∷ m) [] = false
admits (column ∷ m) (p ∷ W) = has p column && admits m W

admits-cons : (column : ℕ) (m : Matrix) (p : ℕ) (W : List ℕ)
    → T (admits (column ∷ m) (p ∷ W)) ↔ (T (has p column) × T (admits m W))
unfolding admits
admits-cons column m p W = T_and (has p column) (admits m W)

-- what stands beyond the matrix does not matter
pub admits-take : (m : Matrix) (W : List ℕ) → admits m (take (length m) W) ≡ admits m W
unfolding admits
admits-take [] W = refl
admits-take (column ∷ m) [] = refl
admits-take (column ∷ m) (p ∷ W) = ap (λ (b : Bool). has p column && b) (admits-take m W)

-- ---- 1. The meet admits what both admit.

both-pairs : (a b c d : Bool) → ((a && b) && (c && d)) ≡ ((a && c) && (b && d))
both-pairs true true c d = refl
both-pairs true false true d = refl
both-pairs true false false d = refl
both-pairs false b c d = refl

pub admits-meet : (a b : Matrix) (W : List ℕ) → length a ≡ length b
    → admits (meet a b) W ≡ (admits a W && admits b W)
unfolding admits meet
admits-meet [] [] W e = refl
admits-meet [] (y ∷ b) W e = absurd (omega arith)
admits-meet (x ∷ a) [] W e = absurd (omega arith)
admits-meet (x ∷ a) (y ∷ b) [] e = refl
admits-meet (x ∷ a) (y ∷ b) (p ∷ W) e =
    ap₂ ◌&&◌ (has-and p x y) (admits-meet a b W (suc_inj e))
    ∙ both-pairs (has p x) (has p y) (admits a W) (admits b W)

pub meet-admits : (a b : Matrix) (W : List ℕ) → length a ≡ length b
    → T (admits (meet a b) W) ↔ (T (admits a W) × T (admits b W))
meet-admits a b W e = rw (admits-meet a b W e) (T_and (admits a W) (admits b W))

-- ---- 2. The shift admits what is left of an admitted list when its first phone goes.

admits-last : (m : Matrix) (set : ℕ) (W : List ℕ)
    → admits (m ++ (set ∷ [])) W ≡ (admits m W && has (W ! length m) set)
unfolding admits has
admits-last [] set [] = refl
admits-last [] set (p ∷ W) = and-true (has p set)
admits-last (column ∷ m) set [] = refl
admits-last (column ∷ m) set (p ∷ W) =
    ap (λ (b : Bool). has p column && b) (admits-last m set W)
    ∙ sym (and_assoc (has p column) (admits m W) (has (W ! length m) set))

-- a phone of the book is among all phones
phone-in-all : (phones p : ℕ) → T (is_phone phones p) → T (has p (all_phones phones))
unfolding is_phone
phone-in-all phones p h = rw has_all h

pub shift-admits-rest : (phones : ℕ) (m : Matrix) (x : ℕ) (W : List ℕ) → 0 < length m → length m ≤ length W
    → T (every (is_phone phones) W) → T (admits m (x ∷ W)) → T (admits (shift phones m) W)
unfolding shift
shift-admits-rest phones [] x W some long r h = absurd (omega arith)
shift-admits-rest phones (column ∷ m) x W some long r h =
    let last = phone-in-all phones (W ! length m) (every-at (is_phone phones) W 0 r (length m) (omega arith)) in
    rw (admits-last m (all_phones phones) W)
    ((T_and (admits m W) (has (W ! length m) (all_phones phones))).1 (((admits-cons column m x W).0 h).1, last))

-- a member of a column is a phone of the book
member-phone : (phones set p : ℕ) → set < 2 ^ phones → T (has p set) → T (is_phone phones p)
member-phone phones set p b h = (phone_range phones p).1 (has-below p set phones b h)

-- what the shift admits: some phone can stand before it
pub shift-admits-from : (phones : ℕ) (m : Matrix) (W : List ℕ) → 0 < length m → Below phones m → T (valid m)
    → T (admits (shift phones m) W) → (x : ℕ) × T (is_phone phones x) × T (admits m (x ∷ W))
unfolding shift valid
shift-admits-from phones [] W some b v h = absurd (omega arith)
shift-admits-from phones (column ∷ m) W some b v h =
    let (x, first) = (column-member column).0 ((every-cons _ column m).0 v).0 in
    let rest = ((T_and (admits m W) (has (W ! length m) (all_phones phones))).0 (rw admits-last at h)).0 in
    (x, member-phone phones column x (b 0) first, (admits-cons column m x W).1 (first, rest))

-- ---- 3. A matrix is valid exactly when it admits a window.

pub admits-valid : (m : Matrix) (W : List ℕ) → T (admits m W) → T (valid m)
unfolding admits valid every
admits-valid [] W h = tt
admits-valid (column ∷ m) [] h = absurd h
admits-valid (column ∷ m) (p ∷ W) h =
    let (first, rest) = (admits-cons column m p W).0 h in
    (every-cons _ column m).1 ((column-member column).1 (p, first), admits-valid m W rest)

-- a window of the book's phones that a matrix admits
pub record Window (phones : ℕ) (m : Matrix) : Type 0 where
  pub window : List ℕ
  pub width : length window ≡ length m
  pub phones-in : T (every (is_phone phones) window)
  pub admitted : T (admits m window)

pub valid-admits : (phones : ℕ) (m : Matrix) → Below phones m → T (valid m) → Window phones m
unfolding admits valid every
valid-admits phones [] b v = record { window = []; width = refl; phones-in = tt; admitted = tt }
valid-admits phones (column ∷ m) b v =
    let (some, others) = (every-cons _ column m).0 v in
    let (p, first) = (column-member column).0 some in
    let rest = valid-admits phones m (λ c. b (suc c)) others in
    record {
      window = p ∷ rest.window;
      width = ap suc rest.width;
      phones-in =
          (every-cons (is_phone phones) p rest.window).1
          (member-phone phones column p (b 0) first, rest.phones-in);
      admitted = (admits-cons column m p rest.window).1 (first, rest.admitted);
    }

-- and one through each phone of each column
pub valid-through : (phones : ℕ) (m : Matrix) → Below phones m → T (valid m)
    → (c p : ℕ) → T (has p (m ! c)) → (W : List ℕ) × T (admits m W) × (W ! c ≡ p)
unfolding valid
valid-through phones [] b v c p h = absurd (subst T (has-none p) h)
valid-through phones (column ∷ m) b v zero p h =
    let rest = valid-admits phones m (λ c. b (suc c)) ((every-cons _ column m).0 v).1 in
    (p ∷ rest.window, (admits-cons column m p rest.window).1 (h, rest.admitted), refl)
valid-through phones (column ∷ m) b v (suc c) p h =
    let (some, others) = (every-cons _ column m).0 v in
    let (q, first) = (column-member column).0 some in
    let (W, rest, here) = valid-through phones m (λ c. b (suc c)) others c p h in
    (q ∷ W, (admits-cons column m q W).1 (first, rest), here)

-- ---- 4. The end test of a valid matrix holds exactly when some admitted window has silence in all places
-- right of the centre.

admits-split : (k : ℕ) (m : Matrix) (W : List ℕ)
    → admits m W ≡ (admits (take k m) (take k W) && admits (drop k m) (drop k W))
unfolding admits
admits-split zero m W = refl
admits-split (suc k) [] W = refl
admits-split (suc k) (column ∷ m) [] = refl
admits-split (suc k) (column ∷ m) (p ∷ W) =
    ap (λ (b : Bool). has p column && b) (admits-split k m W)
    ∙ sym (and_assoc (has p column) (admits (take k m) (take k W)) (admits (drop k m) (drop k W)))

-- silence throughout
admits-silence : (m : Matrix) → admits m (replicate (length m) 1) ≡ every (has 1) m
unfolding admits every
admits-silence [] = refl
admits-silence (column ∷ m) = ap (λ (x : Bool). has 1 column && x) (admits-silence m)

module _ (half : ℕ) (m : Matrix) (width : length m ≡ half + half + 1) where
  -- the columns up to the centre
  abbrev left : Matrix
  left = take (half + 1) m

  ends-split : (U : List ℕ) → length U ≡ half + 1
      → admits m (U ++ replicate half 1) ≡ (admits left U && ends_here half m)
  unfolding ends_here
  ends-split U e =
      let k : ℕ = half + 1 in
      let right : length (drop k m) ≡ half = length-drop k m ∙ omega arith in
      let silent = ap (λ (n : ℕ). admits (drop k m) (replicate n 1)) (sym right) ∙ admits-silence (drop k m) in
      admits-split k m (U ++ replicate half 1)
      ∙ rw (take_at U (replicate half 1) k e, drop_at U (replicate half 1) k e, silent)

  pub admits-ends : (U : List ℕ) → length U ≡ half + 1 → T (admits m (U ++ replicate half 1))
      → T (ends_here half m)
  admits-ends U e h = ((T_and (admits left U) (ends_here half m)).0 (subst T (ends-split U e) h)).1

  -- the places up to the centre are those of any admitted window
  pub ends-admits : (phones : ℕ) → Below phones m → T (valid m) → T (ends_here half m)
      → (U : List ℕ) × (length U ≡ half + 1) × T (every (is_phone phones) U)
      × T (admits m (U ++ replicate half 1))
  ends-admits phones b v h =
      let k : ℕ = half + 1 in
      let w = valid-admits phones m b v in
      let W : List ℕ = w.window in
      let long : length (take k W) ≡ k = length-take-le k W (omega (arith, w.width)) in
      let inside = (every-split (is_phone phones) k W w.phones-in).0 in
      let parts = (T_and (admits left (take k W)) (admits (drop k m) (drop k W))).0
      (subst T (admits-split k m W) w.admitted) in
      let ends = (T_and (admits left (take k W)) (ends_here half m)).1 (parts.0, h) in
      (take k W, long, inside, rw (ends-split (take k W) long) ends)

-- ---- 5. The start's cut admits what the matrix admits with silence left of the centre.

admits-start : (half : ℕ) (m : Matrix) (W : List ℕ) → half ≤ length m
    → admits (start_cut half m) W ≡ (admits m W && same (take half W) (replicate half 1))
unfolding start_cut admits same
admits-start zero m W l = sym (and-true (admits m W))
admits-start (suc half) [] W l = absurd (omega arith)
admits-start (suc half) (column ∷ m) [] l = refl
admits-start (suc half) (column ∷ m) (p ∷ W) l =
    let silent : Bool = same (take half W) (replicate half 1) in
    ap₂ ◌&&◌ (has-and p column (alone 1)) (admits-start half m W (omega arith))
    ∙ ap (λ (b : Bool). (has p column && b) && (admits m W && silent)) (has-alone p 1 (omega arith))
    ∙ both-pairs (has p column) (eqb p 1) (admits m W) silent

pub start-admits : (half : ℕ) (m : Matrix) (W : List ℕ) → half ≤ length m
    → T (admits (start_cut half m) W) ↔ (T (admits m W) × (take half W ≡ replicate half 1))
start-admits half m W l =
    Iff.trans
    (rw (admits-start half m W l) (T_and (admits m W) (same (take half W) (replicate half 1))))
    (Iff.and Iff.rfl (same-is (take half W) (replicate half 1)))
