-- Laws about the meeting of two matrices: where it is valid, its matrix is the meet, and its first word is 0 exactly
-- where it is not; and what it gives once it has come to an empty column, or past the last. Both matrices have one
-- width, which may be any. The proofs of the code that meets matrices use them.
use Rattle.std.specs.Prelude.{◌≡◌, refl, ◌↔◌, List, [], ◌∷◌, true, false, not, ℕ, zero, suc, ◌<◌, T, eqb, length}
use Rattle.std.proofs.Common.{sym, ap, ◌∙◌, subst, arith, eq-eqb, ne_eqb}
use Rattle.std.proofs.Math.Nat.{suc_inj}
use Rattle.std.specs.Int.Bits.{bit_and}
use Rattle.definitions.specs.Lists.{◌!◌, every}
use Rattle.definitions.specs.Matrices.{Matrix, matrix_words, valid, meet}
use Rattle.definitions.specs.Meeting.{columns_met, met_words}
use Rattle.definitions.proofs.Laws.Lists.Tests.{every-at, by-test}
use Rattle.definitions.proofs.Laws.Matrices.SevenWords.{words-column}

-- ---- the matrix

-- a valid meeting's matrix is the meet
pub valid-met : (m n : Matrix) → valid (meet m n) ≡ true → met_words m n ≡ matrix_words (meet m n)
unfolding met_words
valid-met m n e = rw e

-- its first word tells whether it is valid
pub first_word : (m n : Matrix) → 0 < length (meet m n)
    → ((met_words m n ! 0) ≡ 0) ↔ (valid (meet m n) ≡ false)
unfolding met_words valid
first_word m n some = (there, λ e. rw e)
  where
    filled : valid (meet m n) ≡ true → (met_words m n ! 0) ≡ 0 → ⊥
    filled e z =
        let column : (meet m n ! 0) ≡ 0 =
        sym (words-column (meet m n) 0) ∙ ap (λ (l : List ℕ). l ! 0) (sym (valid-met m n e)) ∙ z in
        let passes : T (not (eqb (meet m n ! 0) 0)) = every-at _ (meet m n) 0 (subst T (sym e) tt) 0 some in
        rw (eq-eqb (meet m n ! 0) 0 column) at passes

    there : (met_words m n ! 0) ≡ 0 → valid (meet m n) ≡ false
    there z = by-test (valid (meet m n)) (λ e. absurd (filled e z)) (λ e. e)

-- ---- how far it goes

-- the columns before one have phones in common
abbrev pub NoneEmpty : (m n : Matrix) → (column : ℕ) → Type 0
NoneEmpty m n column = (c : ℕ) → c < column → (bit_and (m ! c) (n ! c) ≡ 0) → ⊥

-- at an empty column it ends, and is not valid
pub met-empty : (m n : Matrix) → length m ≡ length n → (column : ℕ) → column < length m → NoneEmpty m n column
    → bit_and (m ! column) (n ! column) ≡ 0 → (columns_met m n ≡ suc column) × (valid (meet m n) ≡ false)
unfolding columns_met valid meet every
met-empty [] n e column h none z = absurd (omega arith)
met-empty (a ∷ m) [] e column h none z = absurd (omega arith)
met-empty (a ∷ m) (b ∷ n) e zero h none z = (rw (eq-eqb (bit_and a b) 0 z), rw (eq-eqb (bit_and a b) 0 z))
met-empty (a ∷ m) (b ∷ n) e (suc column) h none z =
    let (count, invalid) = met-empty m n (suc_inj e) column (omega arith) (λ c k. none (suc c) (omega arith)) z in
    let some : eqb (bit_and a b) 0 ≡ false = ne_eqb (bit_and a b) 0 (none 0 (omega arith)) in
    (rw some (ap suc count), rw some invalid)

-- past the last column it has met all, and is valid
pub met_all : (m n : Matrix) → length m ≡ length n → NoneEmpty m n (length m)
    → (columns_met m n ≡ length m) × (valid (meet m n) ≡ true)
unfolding columns_met valid meet every
met_all [] [] e none = (refl, refl)
met_all [] (b ∷ n) e none = (refl, refl)
met_all (a ∷ m) [] e none = absurd (omega arith)
met_all (a ∷ m) (b ∷ n) e none =
    let (count, holds) = met_all m n (suc_inj e) (λ c k. none (suc c) (omega arith)) in
    let some : eqb (bit_and a b) 0 ≡ false = ne_eqb (bit_and a b) 0 (none 0 (omega arith)) in
    (rw some (ap suc count), rw some holds)
