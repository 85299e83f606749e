-- Filling an index: what each step asks of the numbers and words that it is given, and what it leaves.
use Rattle.std.specs.Prelude.{◌≡◌, List, ℕ, ◌≤◌, ◌<◌, T, length}
use Rattle.definitions.specs.Combinations.{most_combinations}
use Rattle.definitions.specs.declared.Header.{Header}
use Rattle.definitions.specs.Lists.{◌!◌}
use Rattle.definitions.specs.PhoneSets.{has}
use Rattle.definitions.specs.ForeignTables.{header_known}
use Rattle.index.specs.RecordWords.{count_in, IsListed, column_word}
use Rattle.index.specs.Indexing.{ends_size, MarkedBelow, Marks}

-- ---- what is asked

-- a place of a word after the ends
pub record InRows (at place : ℕ) : Type 0 where
  pub later : ends_size ≤ at
  pub some : 1 ≤ place
  pub few : place ≤ 64

-- a header with few phones, and with few columns left of the centre
pub record Narrow (header : Header) : Type 0 where
  pub phones_few : header.phones ≤ 64
  pub half_few : header.half ≤ 3

-- a combination in words, whose bits are to be set in rows of so many words
pub record Markable (header : Header) (words : List ℕ) (blocks number : ℕ) : Type 0 where
  pub narrow : Narrow header
  pub blocks_few : blocks ≤ 1024
  pub number_few : number ≤ most_combinations
  pub within : IsListed header.half words number

-- combinations whose ends are given, and an index with room for the ends
pub record Fillable (header : Header) (words ends index : List ℕ) : Type 0 where
  pub header-known : T (header_known header)
  pub few : count_in header.half words ≤ most_combinations
  pub ends_sized : length ends ≡ ends_size
  pub room : ends_size ≤ length index

-- ---- what is left

-- after bits were set: the ends are as they were, and no bit is lost
pub record Marking (index₀ index : List ℕ) : Type 0 where
  pub sized : length index ≡ length index₀
  pub before : (i : ℕ) → i < ends_size → (index ! i) ≡ (index₀ ! i)
  pub kept : (i p : ℕ) → T (has p (index₀ ! i)) → T (has p (index ! i))

-- a place of a word is marked, if the index has the word
pub record PlaceMarked (at place : ℕ) (index₀ index : List ℕ) : Type 0 where
  pub marking : Marking index₀ index
  pub marked : at < length index₀ → T (has place (index ! at))

-- a combination is marked in the rows of a column's phones below one
pub record PhonesMarked (phones blocks number column set : ℕ) (index₀ : List ℕ) (phone : ℕ) (index : List ℕ)
    : Type 0 where
  pub marking : Marking index₀ index
  pub some : 1 ≤ phone
  pub within : phone ≤ 65
  pub marked : MarkedBelow phones blocks number column set phone index

-- and in the rows of its columns before one
pub record ColumnsMarked (header : Header) (blocks : ℕ) (words : List ℕ) (number : ℕ) (index₀ : List ℕ) (column : ℕ)
    (index : List ℕ) : Type 0 where
  pub marking : Marking index₀ index
  pub marked : (c : ℕ) → c < column
      → MarkedBelow header.phones blocks number c (column_word header.half words number c) 65 index

-- the combinations before one are marked
pub record CombinationsMarked (header : Header) (words index₀ : List ℕ) (number : ℕ)
    (index : List ℕ) : Type 0 where
  pub marking : Marking index₀ index
  pub marks : Marks header words number index

-- the ends before a place are noted
pub record Noted (ends index₀ : List ℕ) (place : ℕ) (index : List ℕ) : Type 0 where
  pub within : place ≤ ends_size
  pub sized : length index ≡ length index₀
  pub noted : (i : ℕ) → i < place → (index ! i) ≡ (ends ! i)

-- all ends are noted, and all combinations are marked
pub record Filled (header : Header) (words ends index₀ index : List ℕ) : Type 0 where
  pub ends_noted : Noted ends index₀ ends_size index
  pub marks : Marks header words (count_in header.half words) index
