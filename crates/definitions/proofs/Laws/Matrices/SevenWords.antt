-- Laws about a matrix as seven words, the unused ones 0: an operation on the matrix is that on its words.
-- The idea: a 0 after the last column is the empty set that stands beyond the width anyway, and each
-- operation leaves it so, at any size and width. The proofs of the code, which keeps seven words, use them.
use Rattle.std.specs.Prelude.{◌≡◌, set, take, drop}
use Rattle.std.proofs.Math.Path.{refl, sym}
use Rattle.std.proofs.Common.{ap, ap₂, ◌∙◌, arith, length-set}
use mathlib.Core.List.{List, [], ◌∷◌, ◌++◌, append_assoc}
use Prim.Native.Nat.{ℕ, zero, suc, ◌-◌, ◌≤◌}
use Rattle.std.specs.Int.Bits.{bit_and}
use Rattle.std.proofs.Math.ListN.{length, length-drop}
use Rattle.std.proofs.lemmas.List.{set-get_or, drop-append-le}
use Rattle.std.proofs.Math.Seq.{take_at, drop_at}
use Rattle.definitions.specs.Lists.{◌!◌, cleared, padded}
use Rattle.definitions.specs.PhoneSets.{has, alone, all_phones, without}
use Rattle.definitions.specs.Matrices.{Matrix, matrix_words, yes_side, no_side, shift, start_cut}
use Rattle.definitions.proofs.Laws.Lists.Lists.{padded-length, padded-take}
use Rattle.definitions.proofs.Laws.Matrices.Matrices.{shift-length, start-length}
use Rattle.definitions.proofs.Laws.Matrices.Matrices.{yes-set, no-set}

-- ---- zeros after a matrix: the columns stay, and an operation passes through them

zeros-column : (m : Matrix) (k c : ℕ) → (m ++ cleared k) ! c ≡ m ! c
zeros-column [] zero c = refl
zeros-column [] (suc k) zero = refl
zeros-column [] (suc k) (suc c) = zeros-column [] k c
zeros-column (x ∷ m) k zero = refl
zeros-column (x ∷ m) k (suc c) = zeros-column m k c

-- a change of one column that keeps the empty set empty does nothing to the zeros
zeros-put : (f : ℕ → ℕ) → f 0 ≡ 0 → (m : Matrix) (k i : ℕ)
    → set m i (f (m ! i)) ++ cleared k ≡ set (m ++ cleared k) i (f ((m ++ cleared k) ! i))
zeros-put f e [] k i =
    let empty : f (cleared k ! i) ≡ cleared k ! i = simp (zeros-column [] k i, e) in
    sym (rw empty (set-get_or (cleared k) i 0))
zeros-put f e (x ∷ m) k zero = refl
zeros-put f e (x ∷ m) k (suc i) = ap (λ (r : Matrix). x ∷ r) (zeros-put f e m k i)

zeros-cut : (half k : ℕ) → cleared k ≡ start_cut half (cleared k)
unfolding start_cut
zeros-cut zero k = refl
zeros-cut (suc half) zero = refl
zeros-cut (suc half) (suc k) = ap (λ (r : Matrix). 0 ∷ r) (zeros-cut half k)

zeros-start : (half : ℕ) (m : Matrix) (k : ℕ) → start_cut half m ++ cleared k ≡ start_cut half (m ++ cleared k)
unfolding start_cut
zeros-start zero m k = refl
zeros-start (suc half) [] k = zeros-cut (suc half) k
zeros-start (suc half) (x ∷ m) k = ap (λ (r : Matrix). bit_and x (alone 1) ∷ r) (zeros-start half m k)

-- ---- a matrix padded to any size

module _ (size : ℕ) where
  pub padded-column : (m : Matrix) (c : ℕ) → padded size m ! c ≡ m ! c
  unfolding padded
  padded-column m c = zeros-column m (size - length m) c

  -- matrices of one width are padded by the same zeros
  padded-as : (m n : Matrix) → length n ≡ length m → padded size n ≡ n ++ cleared (size - length m)
  unfolding padded
  padded-as m n e = rw e

  padded-shift : (phones w : ℕ) (m : Matrix) → length m ≡ suc w
      → padded size (shift phones m)
      ≡ take w (drop 1 (padded size m)) ++ (all_phones phones ∷ drop (suc w) (padded size m))
  unfolding padded shift
  padded-shift n w m e =
      let z : List ℕ = cleared (size - length m) in
      let rest : length (drop 1 m) ≡ w = rw length-drop (omega arith) in
      padded-as m (shift n m) (shift-length n m (omega arith)) ∙ append_assoc (drop 1 m) (all_phones n ∷ []) z
      ∙ sym (rw (drop-append-le 1 m z (omega arith), take_at (drop 1 m) z w rest, drop_at m z (suc w) e))

  padded-put : (f : ℕ → ℕ) → f 0 ≡ 0 → (m : Matrix) (i : ℕ)
      → padded size (set m i (f (m ! i))) ≡ set (padded size m) i (f (padded size m ! i))
  unfolding padded
  padded-put f e m i =
      padded-as m (set m i (f (m ! i))) (length-set m i (f (m ! i))) ∙ zeros-put f e m (size - length m) i

  padded-yes : (position s : ℕ) (m : Matrix)
      → padded size (yes_side position s m) ≡ yes_side position s (padded size m)
  padded-yes i s m = simp yes-set (padded-put (λ x. bit_and x s) refl m i)

  padded-no : (position s : ℕ) (m : Matrix)
      → padded size (no_side position s m) ≡ no_side position s (padded size m)
  unfolding without
  padded-no i s m = simp no-set (padded-put (λ x. without x s) refl m i)

  padded-start : (half : ℕ) (m : Matrix) → padded size (start_cut half m) ≡ start_cut half (padded size m)
  unfolding padded
  padded-start half m =
      padded-as m (start_cut half m) (start-length half m) ∙ zeros-start half m (size - length m)

  padded-same : (a b : Matrix) → length a ≡ length b → padded size a ≡ padded size b → a ≡ b
  padded-same a b e q =
      sym (padded-take size (length a) a refl) ∙ ap₂ take e q ∙ padded-take size (length b) b refl

-- ---- the seven words

pub words-length : (m : Matrix) → length m ≤ 7 → length (matrix_words m) ≡ 7
unfolding matrix_words
words-length = padded-length 7

pub words-column : (m : Matrix) (c : ℕ) → matrix_words m ! c ≡ m ! c
unfolding matrix_words
words-column = padded-column 7

pub words-has : (p : ℕ) (m : Matrix) (c : ℕ) → has p (matrix_words m ! c) ≡ has p (m ! c)
words-has p m c = ap (has p) (words-column m c)

pub words-shift : (phones w : ℕ) (m : Matrix) → length m ≡ suc w
    → matrix_words (shift phones m)
    ≡ take w (drop 1 (matrix_words m)) ++ (all_phones phones ∷ drop (suc w) (matrix_words m))
unfolding matrix_words
words-shift = padded-shift 7

pub words-yes : (position s : ℕ) (m : Matrix)
    → matrix_words (yes_side position s m) ≡ yes_side position s (matrix_words m)
unfolding matrix_words
words-yes = padded-yes 7

pub words-no : (position s : ℕ) (m : Matrix)
    → matrix_words (no_side position s m) ≡ no_side position s (matrix_words m)
unfolding matrix_words
words-no = padded-no 7

pub words-start : (half : ℕ) (m : Matrix) → matrix_words (start_cut half m) ≡ start_cut half (matrix_words m)
unfolding matrix_words
words-start = padded-start 7

-- the matrix is the words up to its width
pub words_take : (m : Matrix) {width : ℕ} → length m ≡ width → take width (matrix_words m) ≡ m
unfolding matrix_words
words_take m {width} e = padded-take 7 width m (sym e)

pub words_same : (a b : Matrix) → length a ≡ length b → matrix_words a ≡ matrix_words b → a ≡ b
unfolding matrix_words
words_same = padded-same 7
