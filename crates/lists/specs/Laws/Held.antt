-- Laws about lists held in words: where their matrices stand, what they are by place and column, the turns of a
-- loop over them, and words in which a list was made.
use Rattle.std.specs.Prelude.{◌≡◌, refl, Bool, true, ℕ, suc, ◌+◌, ◌≤◌, ◌<◌, length, drop, get_or, set, T}
use Rattle.std.proofs.Common.{sym, ap, ◌∙◌, subst, mul-le-mul_left, arith, length-drop, length-set, length-take-le, get_or-set_same, ext_get_or, leb→le, le-leb}
use mathlib.Core.List.{List, []}
use Rattle.definitions.specs.Lists.{◌!◌, up_from}
use Rattle.definitions.specs.Matrices.{Matrix, matrix_size}
use Rattle.definitions.specs.MatrixLists.{most_matrices}
use Rattle.definitions.proofs.Laws.Lists.Lists.{part_at, map-up_from-length, map-up_from-get}
use Rattle.definitions.proofs.Laws.Matrices.Sizes.{columns-held}
use Rattle.matrix.specs.Shapes.{width_of}
use Rattle.lists.specs.Held.{start_of, columns_at, matrix_at, list_in, HasRoom, Holds, Became}

-- ---- where matrices stand

pub place-before : (half place other : ℕ) → place < other
    → start_of half place + matrix_size half ≤ start_of half other
place-before half place other h = omega (arith, mul-le-mul_left {m = suc place} {n = other} (matrix_size half) h)

module _ {half : ℕ} {words : List ℕ} (r : HasRoom half words) where
  pub wide_enough : width_of half ≤ matrix_size half
  wide_enough = columns-held half r.narrow

  pub place-within : (place : ℕ) → place < most_matrices → start_of half place + width_of half ≤ length words
  place-within place h = omega (arith, place-before half place most_matrices h, r.room, wide_enough)

  -- the same in words that were these
  pub room_at : (later : List ℕ) → length later ≡ length words → {from : ℕ} (place : ℕ) → place < most_matrices
      → from ≡ start_of half place → from + width_of half ≤ length later
  room_at later e place h f = omega (arith, place-within place h)

-- ---- the columns from a word on

module _ (half : ℕ) (words : List ℕ) (from : ℕ) where
  pub columns-at : (c : ℕ) → c < width_of half → columns_at half words from ! c ≡ words ! (from + c)
  columns-at c h = part_at (width_of half) from words c 0 h

  module _ (h : from + width_of half ≤ length words) where
    pub columns-length : length (columns_at half words from) ≡ width_of half
    columns-length = length-take-le (width_of half) (drop from words) (rw length-drop (omega arith))

    pub columns_are : (m : Matrix) → length m ≡ width_of half
        → ((c : ℕ) → c < width_of half → words ! (from + c) ≡ m ! c) → columns_at half words from ≡ m
    columns_are m e f =
        ext_get_or 0 (columns_at half words from) m (columns-length ∙ sym e)
        (λ c k.
        let inside : c < width_of half = omega (arith, columns-length) in
        columns-at c inside ∙ f c inside)

-- words that are the same, column by column
pub columns-same : (half : ℕ) (a b : List ℕ) (from to : ℕ) → from + width_of half ≤ length a
    → to + width_of half ≤ length b → ((c : ℕ) → c < width_of half → a ! (from + c) ≡ b ! (to + c))
    → columns_at half a from ≡ columns_at half b to
columns-same half a b from to h k f =
    columns_are half a from h (columns_at half b to) (columns-length half b to k)
    (λ c l. f c l ∙ sym (columns-at half b to c l))

-- ---- the matrices, by place

module _ (half : ℕ) (words : List ℕ) where
  pub list_length : length (list_in half words) ≡ words ! 0
  unfolding list_in
  list_length = map-up_from-length (matrix_at half words) 0 (words ! 0)

  pub list_at : (place : ℕ) → place < words ! 0 → get_or (list_in half words) place [] ≡ matrix_at half words place
  unfolding list_in
  list_at place h = map-up_from-get (matrix_at half words) [] 0 (words ! 0) place place h (omega arith)

  pub list-is : (l : List Matrix) → words ! 0 ≡ length l
      → ((place : ℕ) → place < length l → matrix_at half words place ≡ get_or l place [])
      → list_in half words ≡ l
  list-is l e f =
      ext_get_or [] (list_in half words) l (list_length ∙ e)
      (λ place h.
      let inside : place < length l = omega (arith, list_length) in
      list_at place (omega arith) ∙ f place inside)

pub list-few : {half : ℕ} {words : List ℕ} → Holds half words → length (list_in half words) ≤ most_matrices
list-few {half} {words} h = omega (arith, list_length half words, h.few)

-- ---- a loop over the places of a list

-- a turn: the matrix at a place, whose columns begin at a word
pub record Turn (half : ℕ) (words : List ℕ) (place from : ℕ) : Type 0 where
  pub inside : place < length (list_in half words)
  pub its : get_or (list_in half words) place [] ≡ columns_at half words from
  pub there : from + width_of half ≤ length words

module _ {half : ℕ} {words : List ℕ} (h : Holds half words) {count : ℕ} (e : count ≡ words ! 0) (place : ℕ) where
  pub turn-of : {from : ℕ} → place < count → from ≡ start_of half place → Turn half words place from
  turn-of {from} k f =
      let room : start_of half place + width_of half ≤ length words =
      place-within h.space place (omega (arith, h.few)) in
      record {
        inside = omega (arith, list_length half words);
        its = list_at half words place (omega arith) ∙ ap (columns_at half words) (sym f);
        there = omega arith;
      }

  pub turns-end : count ≤ place → length (list_in half words) ≤ place
  turns-end k = omega (arith, list_length half words)

-- ---- words in which a list was made

-- words that hold it already
pub unchanged : {half : ℕ} {l : List Matrix} {words : List ℕ} → Holds half words
    → l ≡ list_in half words → Became half l true words words
unchanged {half} {l} {words} h e = record {
  judged =
      sym (le-leb (length l) most_matrices
      (omega (arith, ap length e, list_length half words, h.few)));
  sized = refl;
  held = λ t. sym e;
}

-- where the answer is yes, the words hold the list
pub became-holds : {half : ℕ} {l : List Matrix} {answer : Bool} {before after : List ℕ}
    → HasRoom half before → Became half l answer before after → T answer → Holds half after
became-holds {half} {l} {answer} {before} {after} h b t = record {
  space = record { narrow = h.narrow; room = rw b.sized h.room };
  few =
      let fits : length l ≤ most_matrices = leb→le (length l) most_matrices (subst T b.judged t) in
      omega (arith, ap length (b.held t), list_length half after);
}

-- only the length of the words before it counts
pub became-from : {half : ℕ} {l : List Matrix} {answer : Bool} {first before after : List ℕ}
    → length before ≡ length first → Became half l answer before after
    → Became half l answer first after
became-from e b = record { judged = b.judged; sized = b.sized ∙ e; held = b.held }

-- a word written leaves room
pub room-set : {half : ℕ} {words : List ℕ} → HasRoom half words → (i v : ℕ)
    → HasRoom half (set words i v)
room-set {words = words} h i v =
    record { narrow = h.narrow; room = rw (length-set words i v) h.room }

-- words whose count is 0 hold the empty list
module _ {half : ℕ} {words : List ℕ} (h : HasRoom half words) where
  none : set words 0 0 ! 0 ≡ 0
  none = get_or-set_same words 0 0 0 (omega (arith, h.room))

  pub emptied-holds : Holds half (set words 0 0)
  emptied-holds = record { space = room-set h 0 0; few = omega (arith, none) }

  pub emptied-list : list_in half (set words 0 0) ≡ []
  unfolding list_in up_from
  emptied-list = rw none
