-- Document 02, P4: "A word book, lines as in the tree book, has `V` lines: word, place, phone." How it is read,
-- what the table of words then holds, and which tables are foreign.
use Rattle.std.specs.Prelude.{◌≡◌, List, [], ◌∷◌, map, Bool, true, false, ◌&&◌, ◌||◌, ℕ, suc, ◌*◌, ◌/◌, leb, eqb, length, take, drop}
use Rattle.definitions.specs.declared.Fault.TheVariants.{Vocabulary}
use Rattle.definitions.specs.Faults.{Outcome, answered, refused, ◌unless◌, judge}
use Rattle.definitions.specs.Lists.{◌!◌, every, select, concat_map, up_from, records, cleared, padded}
use Rattle.definitions.specs.Forms.{word_forms, most_words, most_places, most_phone}
use Rattle.definitions.specs.Lines.{Line}
use Rattle.definitions.specs.BookLines.{is_phone}
use Rattle.definitions.specs.Reading.{Kind, read_text}
use Rattle.definitions.specs.ForeignTables.{holds_only}

-- ---- lines

pub record WordLine : Type 0 where
  pub word : ℕ
  pub place : ℕ
  pub phone : ℕ

unfoldable pub word_line : Line → WordLine
word_line line = record { word = line.numbers ! 0; place = line.numbers ! 1; phone = line.numbers ! 2 }

-- the last line; before the first, one of word 0 and place 0
unfoldable pub last_line : List WordLine → WordLine
last_line [] = record { word = 0; place = 0; phone = 0 }
last_line (line ∷ []) = line
last_line (line ∷ next ∷ lines) = last_line (next ∷ lines)

-- 14, "Words 1..9999 and places 1..64 ascend without gaps": the next place of the same word, or the first place of
-- the next word. (A line of word 0 is 13 before that.)
unfoldable pub comes_next : (last line : WordLine) → Bool
comes_next last line =
    (eqb line.word last.word && eqb line.place (suc last.place))
    || (eqb line.word (suc last.word) && eqb line.place 1)

-- ---- words

-- how many words there are, and each as the list of its phones
unfoldable pub word_count : List WordLine → ℕ
word_count lines = (last_line lines).word

unfoldable pub phones_said : List WordLine → (word : ℕ) → List ℕ
phones_said lines word = map (λ line. line.phone) (select (λ line. eqb line.word word) lines)

unfoldable pub words_of : List WordLine → List (List ℕ)
words_of lines = map (phones_said lines) (up_from 1 (word_count lines))

-- "A word is kept as 65 32-bit words: length, phones, then 0."
abbrev pub word_size : ℕ
word_size = 65

unfoldable pub word_words : (phones : List ℕ) → List ℕ
word_words phones = padded word_size (length phones ∷ phones)

-- ---- reading

-- "Word books use 11 to 14, and 51, with line 0, refuses more words than the lent table holds, after all line
-- checks": `lent` is the length of the table in words of 32 bits. There is no 17.
unfoldable pub word_kind : (lent : ℕ) → Kind WordLine
word_kind lent =
    record {
      forms = word_forms;
      view = word_line;
      follows = λ before line. true;
      within_counts = λ before line. true;
      in_order = λ before line. comes_next (last_line before) line;
      further_tests = λ before line. [];
      full = λ before. false;
      enough = λ lines. true;
      after_last = λ lines. judge 0 (Vocabulary unless leb (word_count lines) (lent / word_size) ∷ []) (answered lines);
    }

-- Reading a word book into a table of so many words of 32 bits: its lines, or the refusal; and what the table then
-- holds.
unfoldable pub read_words : (lent : ℕ) → (text : List ℕ) → Outcome (List WordLine)
read_words lent text = read_text (word_kind lent) text

unfoldable pub words_left : (lent : ℕ) → Outcome (List WordLine) → List ℕ
words_left lent (answered lines) = padded lent (concat_map word_words (words_of lines))
words_left lent (refused r) = cleared lent

-- ---- lent tables

-- the words in the first `count` records of a table
unfoldable pub word_in : (row : List ℕ) → List ℕ
word_in row = take (row ! 0) (drop 1 row)

unfoldable pub words_in : (count : ℕ) → (table : List ℕ) → List (List ℕ)
words_in count table = map word_in (records word_size count table)

-- 18, a table of so many words that the reader never leaves
unfoldable pub word_known : (row : List ℕ) → Bool
word_known row =
    leb 1 (row ! 0) && leb (row ! 0) most_places
    && every (is_phone most_phone) (word_in row)
    && every (λ rest. eqb rest 0) (drop (suc (row ! 0)) row)

unfoldable pub words_known : (count : ℕ) → (table : List ℕ) → Bool
words_known count table =
    leb 1 count && leb count most_words
    && holds_only (word_size * count) table
    && every word_known (records word_size count table)

-- a text that reading into a table of so many words of 32 bits accepts, with so many words, leaving this table
abbrev pub LeavesWords : (lent : ℕ) → (text : List ℕ) → (count : ℕ) → (table : List ℕ) → Type 0
LeavesWords lent text count table =
    (lines : List WordLine) × (read_words lent text ≡ answered lines) × (word_count lines ≡ count)
    × (words_left lent (read_words lent text) ≡ table)
