-- Document 02, P4, word books: one that is accepted with the table that it leaves, a word of 64 phones, and a case for
-- each fault, for the order of two faults at once, and for 51 after all lines.
use Rattle.std.specs.Prelude.{refl, List, [], ◌∷◌, ◌++◌, ℕ, ◌+◌, ◌-◌, ◌*◌, drop, replicate, set}
use Prim.Native.Char.{code}
use Prim.Native.String.{String}
use Rattle.definitions.specs.Lists.{concat_map, up_from, cleared}
use Rattle.definitions.specs.Lines.{line_text}
use Rattle.definitions.specs.WordBooks.{word_size, read_words, words_left}
use Rattle.definitions.proofs.Examples.Everything.{everything}
use Rattle.definitions.proofs.Examples.Example.{text_of, Result, accepts, gives, refuses, read}
use Rattle.definitions.proofs.Examples.Example.{Case, ◌is◌, Holds, example}

-- word 1 is phone 2, word 2 is twice phone 2
unfoldable pub word_lines : List String
word_lines =
    "V     1     1     2"
    ∷ "V     2     1     2"
    ∷ "V     2     2     2"
    ∷ []

-- the table that it leaves, which it fills
unfoldable pub word_table : List ℕ
word_table = words_left (word_size * 2) (read_words (word_size * 2) (text_of word_lines))

-- a book of these lines, read into a table for two words, and this book with one line altered or one more
reading : List String → Result
reading lines = read (read_words (word_size * 2) (text_of lines))

line : (number : ℕ) → String → Result
line number altered = reading (set word_lines (number - 1) altered)

next : String → Result
next last = reading (word_lines ++ (last ∷ []))

-- what is left in a table of so many words of 32 bits
left : (lent : ℕ) → List String → Result
left lent lines = gives (words_left lent (read_words lent (text_of lines)))

-- one word with so many phones 2
long : (count : ℕ) → List ℕ
long count = concat_map (λ place. line_text (record { letter = code "V"; numbers = 1 ∷ place ∷ 2 ∷ [] })) (up_from 1 count)

pub accepted : List Case
accepted =
    reading word_lines is accepts
    ∷ gives word_table is gives ((1 ∷ 2 ∷ cleared 63) ++ (2 ∷ 2 ∷ 2 ∷ cleared 62))
    ∷ left (word_size * 2 + 1) word_lines is gives ((1 ∷ 2 ∷ cleared 63) ++ (2 ∷ 2 ∷ 2 ∷ cleared 63))
    ∷ next "V     2     3    64" is accepts
    ∷ next "V     3     1     1" is refuses 51 0
    ∷ gives (words_left word_size (read_words word_size (long 64))) is gives (64 ∷ replicate 64 2)
    ∷ read (read_words word_size (long 65)) is refuses 13 65
    ∷ []

pub accepted-hold : Holds accepted
unfolding everything example word_lines word_table reading next left long accepted
accepted-hold = (refl, (refl, (refl, (refl, (refl, (refl, (refl, tt)))))))

-- 11, 12 for another letter, and 13
pub faults : List Case
faults =
    reading [] is refuses 11 0
    ∷ read (read_words (word_size * 2) (drop 1 (text_of word_lines))) is refuses 11 0
    ∷ line 1 "R     1     1     2" is refuses 12 1
    ∷ line 2 "V     2     1" is refuses 12 2
    ∷ line 3 "V     2     2     0" is refuses 13 3
    ∷ line 3 "V     2     2    65" is refuses 13 3
    ∷ line 3 "V     2    65     2" is refuses 13 3
    ∷ line 3 "V     2     0     2" is refuses 13 3
    ∷ line 2 "V 10000     1     2" is refuses 13 2
    ∷ line 1 "V     0     1     2" is refuses 13 1
    ∷ []

pub faults-hold : Holds faults
unfolding everything example word_lines reading line faults
faults-hold = (refl, (refl, (refl, (refl, (refl, (refl, (refl, (refl, (refl, (refl, tt))))))))))

-- 14: a first line that is not word 1 place 1, gaps in places and in words, a line again, and a word gone on with
pub order : List Case
order =
    line 1 "V     2     1     2" is refuses 14 1
    ∷ line 1 "V     1     2     2" is refuses 14 1
    ∷ line 3 "V     2     3     2" is refuses 14 3
    ∷ line 2 "V     3     1     2" is refuses 14 2
    ∷ line 2 "V     2     2     2" is refuses 14 2
    ∷ next "V     2     2     2" is refuses 14 4
    ∷ next "V     1     2     2" is refuses 14 4
    ∷ []

pub order-hold : Holds order
unfolding everything example word_lines reading line next order
order-hold = (refl, (refl, (refl, (refl, (refl, (refl, (refl, tt)))))))

-- "51, with line 0, refuses more words than the lent table holds, after all line checks", whole records of it
pub vocabulary : List Case
vocabulary =
    read (read_words (word_size * 2 - 1) (text_of word_lines)) is refuses 51 0
    ∷ read (read_words 0 (text_of word_lines)) is refuses 51 0
    ∷ read (read_words 0 (text_of (set word_lines 2 "V     2     1     2"))) is refuses 14 3
    ∷ left (word_size * 2 - 1) word_lines is gives (cleared 129)
    ∷ left 2 (set word_lines 2 "?") is gives (0 ∷ 0 ∷ [])
    ∷ []

pub vocabulary-hold : Holds vocabulary
unfolding everything example word_lines left vocabulary
vocabulary-hold = (refl, (refl, (refl, (refl, (refl, tt)))))
