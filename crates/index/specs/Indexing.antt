-- An index of combinations: where those of each phone end, then rows of bits. The row of a column and a phone
-- has the bit of each combination that has the phone in that column. A word of a row is a set of places,
-- 1 to 64.
use Rattle.std.specs.Option.{unwrap_or}
use Rattle.std.specs.Prelude.{Option, IfSome, ◌≡◌, List, false, ℕ, ◌+◌, ◌*◌, ◌/◌, ◌%◌, ◌≤◌, ◌<◌, T, length}
use Rattle.definitions.specs.declared.Header.{Header}
use Rattle.definitions.specs.Lists.{◌!◌}
use Rattle.definitions.specs.PhoneSets.{has}
use Rattle.index.specs.Combinations.{combinations_in, EndsAt}
use Rattle.index.specs.RecordWords.{count_in, column_word}

-- how many words the ends take, and how many combinations have their bits in one word
abbrev pub ends_size : ℕ
ends_size = 65

abbrev pub block_size : ℕ
block_size = 64

-- how many words a row takes
abbrev pub blocks_in : (half : ℕ) → (words : List ℕ) → ℕ
blocks_in half words = count_in half words / block_size + 1

-- where the row of a column and a phone begins
abbrev pub row_at : (phones blocks column p : ℕ) → ℕ
row_at phones blocks column p = ends_size + (column * phones + p) * blocks

-- how long an index may be, and how far a row may begin: both are far below what a word holds
abbrev pub farthest : ℕ
farthest = 262144

-- a row that does not begin too far: few phones, rows of few words, and a column left of the centre
pub record NearRow (phones blocks column : ℕ) : Type 0 where
  pub phones_few : phones ≤ 64
  pub blocks_few : blocks ≤ 1024
  pub left : column < 3

-- a place of a word is set; in words beyond the index all are
abbrev pub IsSet : (index : List ℕ) → (at place : ℕ) → Type 0
IsSet index at place = at < length index → T (has place (index ! at))

-- the bit of a combination in a row
abbrev pub IsMarked : (index : List ℕ) → (row number : ℕ) → Type 0
IsMarked index row number = IsSet index (row + number / block_size) (number % block_size + 1)

-- a combination's bit in the rows of the phones that a column's set has, of those below one
pub record MarkedBelow (phones blocks number column set below : ℕ) (index : List ℕ) : Type 0 where
  pub each : (p : ℕ) → p < below → T (has p set) → IsMarked index (row_at phones blocks column p) number

-- the bits of the first `count` combinations in the rows of their columns left of the centre
abbrev pub Marks : Header → (words : List ℕ) → (count : ℕ) → (index : List ℕ) → Type 0
Marks header words count index =
    (number column : ℕ) → number < count → column < header.half
    → MarkedBelow header.phones (blocks_in header.half words) number column
    (column_word header.half words number column) 65 index

pub record Indexed (header : Header) (words index : List ℕ) : Type 0 where
  pub sized : ends_size ≤ length index
  pub small : length index ≤ farthest
  pub ends_at : (phone : ℕ) → phone ≤ header.phones → EndsAt (combinations_in header words) index phone
  pub marks : Marks header words (length (combinations_in header words)) index

-- the next member of a set, from one on: none stands before it; 65 where there is none
pub record NextMember (set from next : ℕ) : Type 0 where
  pub after : from ≤ next
  pub within : next ≤ 65
  pub passed : (p : ℕ) → from ≤ p → p < next → has p set ≡ false

-- the member that is found, if there is one
pub record MemberFound (set from : ℕ) (member : Option ℕ) : Type 0 where
  pub next : NextMember set from (unwrap_or member 65)
  pub some : IfSome member (λ m. m ≤ 64)
