-- Laws about tables of words: the words in the table that reading leaves are those that the lines say, and the test for
-- foreign word tables passes it; and a table that passes it is what its words leave.
use Rattle.std.specs.Prelude.{◌≡◌, ◌↔◌, ℕ, ◌*◌, ◌≤◌, eqb, take}
use Rattle.std.proofs.Common.{sym, ap, ◌∙◌, eqb→eq}
use Rattle.std.proofs.Math.Path.{subst}
use mathlib.Core.List.{List, map}
use Rattle.std.proofs.Math.Dec.{T}
use Rattle.std.proofs.Math.ListN.{length}
use Rattle.definitions.specs.Lists.{every, concat_map, records, padded, IsIn}
use Rattle.definitions.specs.Faults.{answered}
use Rattle.definitions.specs.Forms.{most_words}
use Rattle.definitions.specs.ForeignTables.{holds_only}
use Rattle.definitions.specs.WordBooks.{WordLine, word_count, words_of, word_size, word_words, read_words, words_left}
use Rattle.definitions.specs.WordBooks.{word_in, words_in, word_known, words_known}
use Rattle.definitions.proofs.Laws.Lists.Tests.{between-and}
use Rattle.definitions.proofs.Laws.Lists.Lists.{concat_map-map}
use Rattle.definitions.proofs.Laws.Lists.Members.{of_map, every_in, in-every, concat_map-same, map_back}
use Rattle.definitions.proofs.Laws.Lists.Records.{records-within, written-length, written-records}
use Rattle.definitions.proofs.Laws.Lists.Records.{read_length, records-sized, joined-records}
use Rattle.definitions.proofs.Laws.Books.AcceptedKnown.{holds-padded, holds-used}
use Rattle.definitions.proofs.Laws.Words.WordsSaid.{words-length}
use Rattle.definitions.proofs.Laws.Words.AcceptedWords.{AcceptedWords, accepted-words}
use Rattle.definitions.proofs.Laws.Words.Rows.{AllWords, word-sized, word-again, word-known}
use Rattle.definitions.proofs.Laws.Words.Rows.{row_word, row-again}

-- the parts of the test for foreign word tables
pub known-parts : (count : ℕ) (table : List ℕ)
    → T (words_known count table)
    ↔ (((1 ≤ count) × (count ≤ most_words)) × T (holds_only (word_size * count) table)
    × T (every word_known (records word_size count table)))
unfolding words_known
known-parts count table =
    between-and 1 count most_words (holds_only (word_size * count) table) (every word_known (records word_size count table))

-- ---- words in a table

module _ (words : List (List ℕ)) (all : AllWords words) where
  sized : (phones : List ℕ) → IsIn phones words → length (word_words phones) ≡ word_size
  sized phones i = word-sized phones (all phones i).few

  pub words_size : length (concat_map word_words words) ≡ word_size * length words
  words_size = written-length word_words word_size words sized

  -- their records, and they themselves
  rows_written : (lent : ℕ)
      → records word_size (length words) (padded lent (concat_map word_words words)) ≡ map word_words words
  unfolding padded
  rows_written lent = written-records word_words word_size words sized _

  words-written : (lent : ℕ) → words_in (length words) (padded lent (concat_map word_words words)) ≡ words
  unfolding words_in
  words-written lent = rw (rows_written lent) (map_back word_words word_in words (λ phones i. word-again phones))

  table-known : (lent : ℕ) → 1 ≤ length words → length words ≤ most_words → word_size * length words ≤ lent
      → T (words_known (length words) (padded lent (concat_map word_words words)))
  table-known lent some few room =
      let flat : List ℕ = concat_map word_words words in
      (known-parts (length words) (padded lent flat)).1 (
        (some, few),
        holds-used lent (word_size * length words) flat (sym words_size) room,
        rw (rows_written lent) (every_in word_known (map word_words words) (λ row i.
            let (phones, j, own) = of_map word_words row words i in rw own (word-known phones (all phones j)))),
      )

-- ---- what reading leaves

module _ (lent : ℕ) (text : List ℕ) (lines : List WordLine) (e : read_words lent text ≡ answered lines) where
  pub words-again : words_in (word_count lines) (words_left lent (answered lines)) ≡ words_of lines
  unfolding words_left
  words-again =
      subst (λ (n : ℕ). words_in n (words_left lent (answered lines)) ≡ words_of lines) (words-length lines)
      (words-written (words_of lines) (accepted-words lent text lines e).words lent)

  pub accepted-words-known : T (words_known (word_count lines) (words_left lent (answered lines)))
  unfolding words_left
  accepted-words-known =
      let a : AcceptedWords lent lines = accepted-words lent text lines e in
      let count : length (words_of lines) ≡ word_count lines = words-length lines in
      subst (λ (n : ℕ). T (words_known n (words_left lent (answered lines)))) count
      (table-known (words_of lines) a.words lent (rw count a.some_word) (rw count a.few)
      (records-within word_size (length (words_of lines)) (rw count a.room)))

-- ---- a table that passes the test

pub held-length : (count : ℕ) (table : List ℕ) → length (words_in count table) ≡ count
unfolding words_in
held-length count table = read_length word_size word_in count table

module _ (count : ℕ) (table : List ℕ) (known : T (words_known count table)) where
  abbrev rows : List (List ℕ)
  rows = records word_size count table

  pub held-room : word_size * count ≤ length table
  held-room = let (_, holds, _) = (known-parts count table).0 known in (holds-padded (word_size * count) table holds).0

  row_sized : (row : List ℕ) → IsIn row rows → length row ≡ word_size
  row_sized row i =
      eqb→eq (length row) word_size
      (in-every (λ (l : List ℕ). eqb (length l) word_size) rows (records-sized word_size count table held-room) row i)

  row-known : (row : List ℕ) → IsIn row rows → T (word_known row)
  row-known row i = let (_, _, each) = (known-parts count table).0 known in in-every word_known rows each row i

  pub held-words : AllWords (words_in count table)
  unfolding words_in
  held-words phones i =
      let (row, own, e) = of_map word_in phones rows i in
      rw e (row_word row (row_sized row own) (row-known row own))

  -- its words written again are its records
  words-flat : concat_map word_words (words_in count table) ≡ take (word_size * count) table
  unfolding words_in
  words-flat =
      concat_map-map word_words word_in rows
      ∙ concat_map-same (λ row. word_words (word_in row)) (λ (row : List ℕ). row) rows
      (λ row i. row-again row (row_sized row i) (row-known row i))
      ∙ joined-records word_size count table held-room

  pub held-again : padded (length table) (concat_map word_words (words_in count table)) ≡ table
  held-again =
      let (_, holds, _) = (known-parts count table).0 known in
      ap (padded (length table)) words-flat ∙ sym (holds-padded (word_size * count) table holds).1
