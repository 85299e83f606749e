-- What is known of the words that a matrix takes in a record, whatever the half-width: some, enough for its columns,
-- and no more than it has as a value. Proofs go by these laws and do not look how many they are.
use Rattle.std.specs.Prelude.{◌≡◌, take}
use Rattle.std.proofs.Common.{sym, ◌∙◌, arith, length-append}
use Rattle.std.proofs.Math.Path.{ap}
use mathlib.Core.List.{List, ◌++◌, append_assoc}
use Prim.Native.Nat.{ℕ, ◌+◌, ◌-◌, ◌*◌, ◌≤◌, ◌<◌}
use Rattle.std.proofs.Math.ListN.{length}
use Rattle.std.proofs.lemmas.List.{length-replicate, replicate-append-replicate}
use Rattle.std.proofs.Math.Seq.{take_at}
use Rattle.definitions.specs.Lists.{cleared, padded}
use Rattle.definitions.specs.Matrices.{Matrix, most_half, most_columns, matrix_words, matrix_size}
use Rattle.definitions.specs.Matrices.{matrix_record}
use Rattle.definitions.proofs.Laws.Lists.Lists.{padded-length}

pub some_words : (half : ℕ) → 0 < matrix_size half
unfolding matrix_size
some_words half = omega arith

pub columns-held : (half : ℕ) → half ≤ most_half → 2 * half + 1 ≤ matrix_size half
unfolding matrix_size
columns-held half few = omega (arith, few)

pub words-few : (half : ℕ) → half ≤ most_half → matrix_size half ≤ most_columns
unfolding matrix_size
words-few half few = omega arith

-- ---- a matrix in a record, and as a value

module _ (half : ℕ) (few : half ≤ most_half) (m : Matrix) (width : length m ≡ 2 * half + 1) where
  fits : length m ≤ matrix_size half
  fits = omega (arith, width, columns-held half few)

  pub record-length : length (matrix_record half m) ≡ matrix_size half
  unfolding matrix_record
  record-length = padded-length (matrix_size half) m fits

  -- what stands in a record, with 0 after it, is the value
  pub record-value : padded most_columns (matrix_record half m) ≡ matrix_words m
  unfolding matrix_record matrix_words padded
  record-value =
      let size : ℕ = matrix_size half in
      let left : most_columns - length (m ++ cleared (size - length m)) ≡ most_columns - size =
      simp (length-append, length-replicate) (omega (arith, fits)) in
      let all : (size - length m) + (most_columns - size) ≡ most_columns - length m =
      omega (arith, fits, words-few half few) in
      ap (λ (k : ℕ). m ++ cleared (size - length m) ++ cleared k) left
      ∙ append_assoc m (cleared (size - length m)) (cleared (most_columns - size))
      ∙ ap (λ (l : List ℕ). m ++ l) (replicate-append-replicate {A = ℕ} (size - length m) (most_columns - size) 0)
      ∙ ap (λ (k : ℕ). m ++ cleared k) all

  -- and a record has the value's first columns
  pub value-record : take (matrix_size half) (matrix_words m) ≡ matrix_record half m
  unfolding padded
  value-record =
      ap (take (matrix_size half)) (sym record-value)
      ∙ take_at (matrix_record half m) _ (matrix_size half) record-length
