-- What one more line leaves in the lent table, and what all lines so far left there.
use Rattle.std.specs.Prelude.{if◌then◌else◌, List, ℕ, ◌+◌, ◌-◌, ◌*◌, ◌/◌, ltb, length, take, set}
use Rattle.definitions.specs.Lists.{concat_map, padded}
use Rattle.definitions.specs.WordBooks.{WordLine, words_of, word_size, word_words}

-- a word's length and its last phone, put into its record, which so many others stand before
unfoldable pub phone_put : (before place phone : ℕ) → (table : List ℕ) → List ℕ
phone_put before place phone table =
    set (set table (word_size * before) place) (word_size * before + place) phone

-- the table after a line; as it was where it has no record for the line's word
unfoldable pub words_after : WordLine → (table : List ℕ) → List ℕ
words_after line table =
    if ltb (line.word - 1) (length table / word_size)
    then phone_put (line.word - 1) line.place line.phone table else table

-- what these lines leave in a table of so many words of 32 bits: as many of their words as it has records
unfoldable pub words_stored : (lent : ℕ) → (before : List WordLine) → List ℕ
words_stored lent before = padded lent (concat_map word_words (take (lent / word_size) (words_of before)))
