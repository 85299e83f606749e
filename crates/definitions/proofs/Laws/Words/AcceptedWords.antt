-- Laws about accepted word books: their lines came in order, and say 1 to 9999 words, each of 1 to 64 phones, for which
-- the table has room. Each line that passes its tests keeps it, by the laws of one line more.
use Rattle.std.specs.Prelude.{◌≡◌, List, ℕ, ◌/◌, ◌%◌, ◌≤◌, ◌<◌, ltb, eqb, length}
use Rattle.std.proofs.Common.{subst, arith, leb→le, ltb→lt, lit<}
use Rattle.definitions.specs.Lists.{every}
use Rattle.definitions.specs.Faults.{answered}
use Rattle.definitions.specs.Forms.{most_words}
use Rattle.definitions.specs.Lines.{lines_of, ends_in_line_feed, whole_lines}
use Rattle.definitions.specs.WordBooks.{WordLine, word_count, words_of, word_size, word_kind, read_words}
use Rattle.definitions.proofs.Laws.Lists.Tests.{T-three}
use Rattle.definitions.proofs.Laws.Text.Judging.{passes_at, judge-answered}
use Rattle.definitions.proofs.Laws.Text.Reading.{Accepted, text-lines, text-holds, text-many}
use Rattle.definitions.proofs.Laws.Words.OneMore.{InOrder, order-none, order-more}
use Rattle.definitions.proofs.Laws.Words.WordLines.{line-fits}
use Rattle.definitions.proofs.Laws.Words.Rows.{AllWords}

-- all lines of an accepted word book
pub record AcceptedWords (lent : ℕ) (lines : List WordLine) : Type 0 where
  pub words : AllWords (words_of lines)
  pub some_word : 1 ≤ word_count lines
  pub few : word_count lines ≤ most_words
  pub room : word_count lines ≤ lent / word_size

-- the last judgement keeps the lines, and says that there is room for their words
pub words-judged : (lent : ℕ) (lines answer : List WordLine) → (word_kind lent).after_last lines ≡ answered answer
    → (lines ≡ answer) × (word_count lines ≤ lent / word_size)
unfolding word_kind
words-judged lent lines answer e =
    let (passed, same) = judge-answered 0 _ (answered lines) answer e in
    (cc, leb→le _ _ (passes_at _ passed 0 (lit< tt)))

-- a text that is accepted has lines
some-lines : (lent : ℕ) (text : List ℕ) (lines : List WordLine) → read_words lent text ≡ answered lines
    → 0 < length lines
unfolding read_words whole_lines
some-lines lent text lines e =
    let (whole, _) = text-lines (word_kind lent) text lines e in
    let (long, _, _) =
    (T-three (ltb 0 (length text)) (eqb (length text % 32) 0) (every ends_in_line_feed (lines_of text))).0 whole in
    let (read, many, judged) = text-many (word_kind lent) text lines e in
    let (same, _) = words-judged lent read lines judged in
    subst (λ (l : List WordLine). 0 < length l) same (omega (arith, ltb→lt 0 (length text) long, many))

pub accepted-words : (lent : ℕ) (text : List ℕ) (lines : List WordLine) → read_words lent text ≡ answered lines
    → AcceptedWords lent lines
unfolding read_words word_kind
accepted-words lent text lines e =
    let a : Accepted (word_kind lent) InOrder lines = text-holds (word_kind lent) InOrder
    (λ before bytes line o p. order-more o (line-fits lent before bytes line p)) text lines order-none e in
    let (same, room) = words-judged lent a.lines lines a.judged in
    let some-line : 0 < length lines = some-lines lent text lines e in
    let o : InOrder lines = subst InOrder same a.holds in
    record {
      words = o.words;
      some_word = o.begun some-line;
      few = o.few;
      room = subst (λ (l : List WordLine). word_count l ≤ lent / word_size) same room;
    }
