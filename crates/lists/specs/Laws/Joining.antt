-- Laws about the hull: a matrix joined with one in words, column by column; and a list joined matrix by matrix.
use Rattle.std.specs.Prelude.{◌≡◌, refl, ℕ, zero, suc, ◌+◌, ◌-◌, ◌≤◌, ◌<◌, length, get_or, drop}
use Rattle.std.proofs.Math.Path.{sym, ap}
use Rattle.std.proofs.Common.{ap₂, ◌∙◌, add-one, arith, drop_of_length-le, length-take-le, get_or-take, drop-cons}
use mathlib.Core.List.{List, [], ◌∷◌}
use Rattle.std.specs.Int.Bits.{bit_or}
use Rattle.std.proofs.lemmas.List.{length-replicate, replicate-append-replicate}
use Rattle.definitions.specs.Lists.{◌!◌, cleared, padded}
use Rattle.definitions.specs.Matrices.{Matrix, most_half, most_columns, matrix_words}
use Rattle.matrix.specs.Shapes.{width_of, matrix_in}
use Rattle.matrix.specs.Laws.Widths.{matrix-back}
use Rattle.lists.specs.Joining.{join, hull_from, hull}

-- ---- column by column

pub join-length : (a b : Matrix) → length a ≡ length b → length (join a b) ≡ length a
unfolding join
join-length [] b e = refl
join-length (x ∷ a) [] e = absurd (omega arith)
join-length (x ∷ a) (y ∷ b) e = ap suc (join-length a b (omega arith))

pub join-column : (a b : Matrix) (c : ℕ) → c < length a → c < length b → join a b ! c ≡ bit_or (a ! c) (b ! c)
unfolding join
join-column [] b c h k = absurd (omega arith)
join-column (x ∷ a) [] c h k = absurd (omega arith)
join-column (x ∷ a) (y ∷ b) zero h k = refl
join-column (x ∷ a) (y ∷ b) (suc c) h k = join-column a b c (omega arith) (omega arith)

-- two matrices in seven words
module _ {half : ℕ} (narrow : half ≤ most_half) (a : List ℕ) (e : length a ≡ most_columns) (b : List ℕ)
    (f : length b ≡ most_columns)
  where
    own : length (matrix_in half a) ≡ width_of half
    own = length-take-le (width_of half) a (omega (arith, e))

    other : length (matrix_in half b) ≡ width_of half
    other = length-take-le (width_of half) b (omega (arith, f))

    pub joined_length : length (join (matrix_in half a) (matrix_in half b)) ≡ width_of half
    joined_length = join-length (matrix_in half a) (matrix_in half b) (own ∙ sym other) ∙ own

    pub joined-column : (c : ℕ) → c < width_of half
        → bit_or (a ! c) (b ! c) ≡ join (matrix_in half a) (matrix_in half b) ! c
    joined-column c h =
        sym (join-column (matrix_in half a) (matrix_in half b) c (omega (arith, own)) (omega (arith, other))
        ∙ ap₂ bit_or (get_or-take (width_of half) a c 0 h) (get_or-take (width_of half) b c 0 h))

-- ---- matrix by matrix

-- the matrices before a place are joined, in seven words; the others are left
pub record Joined (half : ℕ) (l : List Matrix) (place : ℕ) (columns : List ℕ) : Type 0 where
  pub within : place ≤ length l
  pub sofar : Matrix
  pub width : length sofar ≡ width_of half
  pub holds : columns ≡ matrix_words sofar
  pub rest : hull (width_of half) l ≡ hull_from sofar (drop place l)

pub joined-start : {half : ℕ} → half ≤ most_half → (l : List Matrix) → Joined half l 0 (cleared most_columns)
unfolding hull matrix_words padded
joined-start {half} narrow l =
    let width : ℕ = width_of half in
    let rest : width + (most_columns - width) ≡ most_columns = omega arith in
    record {
      within = omega arith;
      sofar = cleared width;
      width = length-replicate width 0;
      holds = rw (length-replicate, replicate-append-replicate, rest);
      rest = refl;
    }

module _ {half : ℕ} {l : List Matrix} {place : ℕ} {columns : List ℕ} (j : Joined half l place columns) where
  pub joined-more : (x : Matrix) {next : List ℕ} → place < length l → get_or l place [] ≡ x
      → length x ≡ width_of half → next ≡ matrix_words (join (matrix_in half columns) x)
      → Joined half l (place + 1) next
  unfolding hull_from
  joined-more x h e f n =
      let back : matrix_in half columns ≡ j.sofar = matrix-back j.sofar j.width j.holds in
      record {
        within = omega arith;
        sofar = join j.sofar x;
        width = join-length j.sofar x (j.width ∙ sym f) ∙ j.width;
        holds = n ∙ ap (λ (m : Matrix). matrix_words (join m x)) back;
        rest = j.rest ∙ rw (drop-cons l place [] h, e, add-one);
      }

  pub joined_end : length l ≤ place → columns ≡ matrix_words (hull (width_of half) l)
  unfolding hull_from
  joined_end h = j.holds ∙ ap matrix_words (sym (j.rest ∙ rw (drop_of_length-le l {i = place} h)))
