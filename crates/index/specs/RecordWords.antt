-- Records in words; the words of a combination's record: its phone, its leaves and its matrix, and the model of
-- a leaf in the table of nodes; and those of a metastate's: its number and its matrix.
use Rattle.std.specs.Prelude.{◌≡◌, List, ℕ, ◌+◌, ◌*◌, ◌/◌, ◌≤◌, ◌<◌, length, take, drop}
use Rattle.definitions.specs.Forms.{most_nodes}
use Rattle.definitions.specs.Lists.{◌!◌}
use Rattle.definitions.specs.BookReading.{node_size}
use Rattle.definitions.specs.Combinations.{combination_size}
use Rattle.definitions.specs.Metastates.{metastate_size}
use Rattle.definitions.specs.Tables.{node_of}
use Rattle.matrix.specs.Words.{first_seven}
use Rattle.index.specs.declared.Follower.{Follower}

-- the record at a place, of so many words, and that it stands in the words
abbrev pub record_of : (size : ℕ) → (words : List ℕ) → (place : ℕ) → List ℕ
record_of size words place = take size (drop (size * place) words)

abbrev pub RecordWithin : (size : ℕ) → (words : List ℕ) → (place : ℕ) → Type 0
RecordWithin size words place = size * place + size ≤ length words

pub record IsRecord (size : ℕ) (words : List ℕ) (place : ℕ) (part : List ℕ) : Type 0 where
  pub is : part ≡ record_of size words place
  pub sized : length part ≡ size

-- how many combinations stand in words
abbrev pub count_in : (half : ℕ) → (words : List ℕ) → ℕ
count_in half words = length words / combination_size half

-- ---- a combination's record: phone, three leaves, matrix

module _ (half : ℕ) (words : List ℕ) (number : ℕ) where
  abbrev own : List ℕ
  own = record_of (combination_size half) words number

  abbrev pub phone_word : ℕ
  phone_word = own ! 0

  -- the leaf of a state; states count from 0 here
  abbrev pub leaf_word : (state : ℕ) → ℕ
  leaf_word state = drop 1 own ! state

  abbrev pub column_word : (column : ℕ) → ℕ
  column_word column = drop 4 own ! column

  -- its matrix as seven words
  abbrev pub own_columns : List ℕ
  own_columns = first_seven (drop 4 own)

  -- the model of a state, by the word of its leaf
  abbrev pub model_word : (nodes : List ℕ) → (state : ℕ) → ℕ
  model_word nodes state = (node_of (drop (node_size * leaf_word state) nodes)).value

  -- the record can be read, its phone, and its leaf of a state
  abbrev pub IsListed : Type 0
  IsListed = RecordWithin (combination_size half) words number

  pub record HasPhone : Type 0 where
    pub within : IsListed
    pub few : phone_word ≤ 64

  pub record HasLeaf (state : ℕ) : Type 0 where
    pub within : IsListed
    pub states : state < 3
    pub few : leaf_word state < most_nodes

-- ---- a metastate's record: number, matrix

pub record IsMetastate (half : ℕ) (words : List ℕ) (place : ℕ) (x : Follower) : Type 0 where
  pub number_is : x.number ≡ record_of (metastate_size half) words place ! 0
  pub columns_are : x.met.columns ≡ first_seven (drop 1 (record_of (metastate_size half) words place))
