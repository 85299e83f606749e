-- Laws about words that a loop writes: the seven words of a matrix, and words written from a place on over others.
-- The proofs of the functions that do so use them.
use Rattle.std.specs.Cmp.Lexicographic.{pointwise}
use Rattle.std.specs.Prelude.{◌≡◌, refl, Bool, true, ◌&&◌, eqb, ℕ, zero, suc, ◌+◌, ◌-◌, ◌*◌, ◌≤◌, ◌<◌, min, set, take}
use Rattle.std.proofs.Common.{sym, eq-eqb, ne_eqb, inl, inr, ap, ap₂, ◌∙◌, arith, length-append, length-drop, take-append-drop, length-take-le, take_all, get_or-take}
use mathlib.Core.List.{List, [], ◌∷◌, ◌++◌, append-nil}
use Rattle.std.proofs.Math.ListN.{length, drop, drop_of_length-le}
use Rattle.std.proofs.lemmas.Bool.{cases_lt}
use Rattle.std.proofs.lemmas.List.{length-replicate, take-append-le, take_min, drop_min, take-take, take_more_set, drop-set-lt, append_assoc}
use Rattle.std.proofs.Math.Seq.{paste, drop-append-add}
use Rattle.definitions.specs.Lists.{◌!◌, cleared, padded, same}
use Rattle.definitions.specs.Matrices.{Matrix, most_columns, matrix_words, matrix_record}
use Rattle.definitions.proofs.Laws.Lists.Lists.{drop-cleared}
use Rattle.definitions.proofs.Laws.Matrices.SevenWords.{padded-column, words-length}
use Rattle.definitions.proofs.Laws.Matrices.Sizes.{record-value}
use Rattle.lines.specs.Laws.Filling.{Filled, filled_more, filled-end}
use Rattle.matrix.specs.Words.{first_seven, overwritten}

-- the elements from a place on, beyond the first part
drop_past : (k l : List ℕ) (i : ℕ) → length k ≤ i → drop i (k ++ l) ≡ drop (i - length k) l
drop_past k l i h =
    let place : i ≡ length k + (i - length k) = omega arith in
    ap (λ (j : ℕ). drop j (k ++ l)) place ∙ drop-append-add k l (i - length k)

-- a buffer that already holds the rest
pub filled-rest : {t d s : List ℕ} {i : ℕ} → Filled t d i s → drop i t ≡ drop i d → s ≡ t
filled-rest {t} {d} {s} {i} f e = f.holds ∙ rw (← e) (take-append-drop i t)

-- ---- seven words, at first all 0

-- the first c of them are those of t
abbrev pub Columns : (t : List ℕ) → (c : ℕ) → (s : List ℕ) → Type 0
Columns t c s = Filled t (cleared most_columns) c s

module _ {t s : List ℕ} {c : ℕ} (e : length t ≡ most_columns) (f : Columns t c s) where
  pub columns-more : {v : ℕ} → c < most_columns → v ≡ t ! c → Columns t (c + 1) (set s c v)
  columns-more h q = filled_more e f (omega (arith, f.sized)) q

  pub columns-end : most_columns ≤ c → s ≡ t
  columns-end h = filled-end e f (omega (arith, f.sized))

-- ---- the seven words that words begin, 0 where there are no more

pub seven-length : (words : List ℕ) → length (first_seven words) ≡ most_columns
unfolding padded
seven-length words =
    length-take-le most_columns (padded most_columns words)
    (simp (length-append, length-replicate) (omega arith))

pub seven_at : (words : List ℕ) (c : ℕ) → c < most_columns → words ! c ≡ first_seven words ! c
seven_at words c h =
    sym (get_or-take most_columns (padded most_columns words) c 0 h ∙ padded-column most_columns words c)

-- after the last column the words of a matrix are 0
pub words-rest : (m : Matrix) (c : ℕ) → length m ≤ c → c ≤ most_columns
    → drop c (matrix_words m) ≡ drop c (cleared most_columns)
unfolding matrix_words padded
words-rest m c h k =
    let n : ℕ = length m in
    let left : most_columns - n - (c - n) ≡ most_columns - c = omega arith in
    drop_past m (cleared (most_columns - n)) c h ∙ drop-cleared (c - n) (most_columns - n)
    ∙ ap (λ (i : ℕ). cleared i) left ∙ sym (drop-cleared c most_columns)

-- as many of the words as there are, and 0 after them
pub seven-read : (words : List ℕ) (there : ℕ) → there ≡ min (length words) most_columns
    → take there words ++ drop there (cleared most_columns) ≡ first_seven words
unfolding padded
seven-read words there e = elim (cases_lt (length words) most_columns) [
  | inl h ↦
      let all : there ≡ length words = omega (arith, e) in
      rw (
        all,
        take_all (length words) words (omega arith),
        drop-cleared (length words) most_columns,
        take_all most_columns (words ++ cleared (most_columns - length words))
            (simp (length-append, length-replicate) (omega arith)),
      )
  | inr h ↦
      let all : there ≡ most_columns = omega (arith, e) in
      rw (all, take-append-le most_columns words (cleared (most_columns - length words)) h, append-nil)
]

-- those of a record are the matrix as a value
pub record-seven : (half : ℕ) → half ≤ 3 → (m : Matrix) → length m ≡ 2 * half + 1
    → first_seven (matrix_record half m) ≡ matrix_words m
record-seven half few m e =
    ap (take most_columns) (record-value half few m e)
    ∙ take_all most_columns (matrix_words m) (omega (arith, words-length m (omega (arith, e, few))))

-- where seven words are there, they are the matrix
pub seven-there : (words : List ℕ) (from : ℕ) → from + most_columns ≤ length words
    → first_seven (drop from words) ≡ take most_columns (drop from words)
unfolding padded
seven-there words from h = take-append-le most_columns (drop from words) _ (rw length-drop (omega arith))

-- a number stands before the columns
pub after-number : (number : ℕ) (columns : List ℕ) (place : ℕ) → (place ≡ 0 → ⊥)
    → columns ! (place - 1) ≡ (number ∷ columns) ! place
after-number number columns zero n = absurd (n refl)
after-number number columns (suc place) n =
    let before : suc place - 1 ≡ place = omega arith in rw before

-- ---- words written from a place on

-- where all have room
pub overwritten-there : (words : List ℕ) (at : ℕ) (new : List ℕ) {size : ℕ} → length new ≡ size
    → at + size ≤ length words → overwritten words at new ≡ take at words ++ new ++ drop (at + size) words
unfolding overwritten
overwritten-there words at new e h = rw (e, take_all (length words - at) new (omega arith))

-- words that are no more than the new ones become the first of these
pub overwritten-all : (words new : List ℕ) {size : ℕ} → length words ≡ size → size ≤ length new
    → overwritten words 0 new ≡ take size new
unfolding overwritten
overwritten-all words new {size} e h =
    let few : length words - 0 ≡ size = omega (arith, e) in
    ap₂ (λ (k : ℕ) (l : List ℕ). take k new ++ l) few (drop_of_length-le words {i = 0 + length new} (omega arith))
    ∙ append-nil _

-- where none has room
pub overwritten-none : (words : List ℕ) (at : ℕ) (new : List ℕ) → length words ≤ at → overwritten words at new ≡ words
unfolding overwritten
overwritten-none words at new h =
    let none : length words - at ≡ 0 = omega arith in
    rw (none, take_all at words h, drop_of_length-le words {i = at + length new} (omega arith), append-nil, append-nil)

-- a number, and as many columns after it as have room
pub numbered-put : (words : List ℕ) (at number : ℕ) (columns : List ℕ) → at < length words → (n : ℕ)
    → n ≡ min (length words - at - 1) (length columns)
    → paste (set words at number) (at + 1) (take n columns) n ≡ overwritten words at (number ∷ columns)
unfolding overwritten
numbered-put words at number columns h n e =
    let room : length words - at ≡ suc (length words - at - 1) = omega arith in
    let few : take n columns ≡ take (length words - at - 1) columns =
    ap (λ (k : ℕ). take k columns) e ∙ take_min (length words - at - 1) columns in
    let end : at + 1 + n ≡ min (at + suc (length columns)) (length words) = omega (arith, e) in
    let after : drop (at + 1 + n) (set words at number) ≡ drop (at + suc (length columns)) words =
    drop-set-lt (at + 1 + n) words at number (omega arith)
    ∙ ap (λ (k : ℕ). drop k words) end ∙ drop_min (at + suc (length columns)) words in
    rw (take_more_set words at number h, take-take n n columns (omega arith), after, room, ← few)
    (ap (λ (l : List ℕ). l ++ drop (at + suc (length columns)) words) (append_assoc (take at words) (number ∷ []) (take n columns)))

-- ---- words compared with a number and columns

-- the test of two lists is that of each place
pub same-places : (k l : List ℕ) → pointwise eqb k l ≡ same k l
unfolding same
same-places [] [] = refl
same-places [] (y ∷ l) = refl
same-places (x ∷ k) [] = refl
same-places (x ∷ k) (y ∷ l) = ap (λ (b : Bool). eqb x y && b) (same-places k l)

pub numbered-none : (words row : List ℕ) → length words < 1 → true ≡ same words (take (length words) row)
unfolding same
numbered-none [] row h = refl
numbered-none (w ∷ words) row h = absurd (omega (arith, h))

pub numbered-rest : (words : List ℕ) (number : ℕ) (columns : List ℕ) → 1 ≤ length words → words ! 0 ≡ number → {answer : Bool}
    → answer ≡ pointwise eqb (drop 1 words) (take (length (drop 1 words)) columns)
    → answer ≡ same words (take (length words) (number ∷ columns))
unfolding same
numbered-rest [] number columns h e a = absurd (omega (arith, h))
numbered-rest (x ∷ l) number columns h e a = a ∙ same-places l (take (length l) columns) ∙ rw (eq-eqb x number e)

pub numbered-other : (words : List ℕ) (number : ℕ) (columns : List ℕ) → 1 ≤ length words → (words ! 0 ≡ number → ⊥)
    → eqb (words ! 0) number ≡ same words (take (length words) (number ∷ columns))
unfolding same
numbered-other [] number columns h n = absurd (omega (arith, h))
numbered-other (x ∷ l) number columns h n = rw (ne_eqb x number n)
