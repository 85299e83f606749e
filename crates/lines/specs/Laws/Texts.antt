-- Laws about the lines of a text: how many, and which stands at a place; and whether each ends in a line feed,
-- line by line. The proofs of the function that tests it and of those that read a text use them.
use Rattle.std.specs.Prelude.{◌≡◌, List, [], ◌∷◌, ◌++◌, false, ℕ, suc, ◌+◌, ◌*◌, ◌/◌, ◌%◌, ◌≤◌, ◌<◌, eqb, length, take, drop, get_or}
use Rattle.std.proofs.Common.{◌∙◌, arith, lit<, drop_of_length-le, drop-cons, take-suc, lt-ltb, ne_eqb}
use Rattle.definitions.specs.Lists.{◌!◌}
use Rattle.definitions.specs.Lines.{line_feed, lines_of, ends_in_line_feed, whole_lines}
use Rattle.definitions.proofs.Laws.Lists.Lists.{part_at}
use Rattle.definitions.proofs.Laws.Lists.Records.{records-length, record-at}
use Rattle.lines.specs.Laws.Passing.{Passed}

-- ---- the lines of a text

pub lines-count : (text : List ℕ) → length (lines_of text) ≡ length text / 32
unfolding lines_of
lines-count text = records-length 32 (length text / 32) text

line_at : (text : List ℕ) (i : ℕ) → i < length text / 32
    → get_or (lines_of text) i [] ≡ take 32 (drop (32 * i) text)
unfolding lines_of
line_at text i h = record-at 32 (length text / 32) text i h

-- a place below their number
pub line-listed : (text : List ℕ) (i : ℕ) → i < length text / 32 → i < length (lines_of text)
line-listed text i h = rw (lines-count text) h

-- from a place on: the line there, and those from the next place on
pub lines_at : (text : List ℕ) (i : ℕ) → i < length text / 32
    → drop i (lines_of text) ≡ take 32 (drop (32 * i) text) ∷ drop (suc i) (lines_of text)
lines_at text i h = drop-cons (lines_of text) i [] (line-listed text i h) ∙ rw (line_at text i h)

pub lines_end : (text : List ℕ) (i : ℕ) → length text / 32 ≤ i → drop i (lines_of text) ≡ []
lines_end text i h = drop_of_length-le (lines_of text) {i = i} (rw (lines-count text) h)

-- up to a place: one line more, at the end
pub lines-take : (text : List ℕ) (i : ℕ) → i < length text / 32
    → take (suc i) (lines_of text) ≡ take i (lines_of text) ++ (take 32 (drop (32 * i) text) ∷ [])
lines-take text i h = take-suc (lines_of text) i [] (line-listed text i h) ∙ rw (line_at text i h)

-- ---- lines that end in a line feed

pub feed-at : (text : List ℕ) (i : ℕ) → i < length text / 32
    → ends_in_line_feed (get_or (lines_of text) i []) ≡ eqb (text ! (32 * i + 31)) line_feed
unfolding ends_in_line_feed
feed-at text i h = rw (line_at text i h, part_at 32 (32 * i) text 31 0 (lit< tt))

-- ---- a text in whole lines

pub whole-empty : (text : List ℕ) → length text ≡ 0 → false ≡ whole_lines text
unfolding whole_lines
whole-empty text e = rw e

pub whole-torn : (text : List ℕ) → (length text % 32 ≡ 0 → ⊥) → false ≡ whole_lines text
unfolding whole_lines
whole-torn text n = rw (lt-ltb 0 (length text) (omega (arith, n)), ne_eqb (length text % 32) 0 n)

pub whole-rest : (text : List ℕ) → (length text ≡ 0 → ⊥) → length text % 32 ≡ 0
    → Passed ends_in_line_feed (lines_of text) (whole_lines text) 0
unfolding whole_lines
whole-rest text n e =
    record { within = omega arith; rest = rw (lt-ltb 0 (length text) (omega arith), e) }
