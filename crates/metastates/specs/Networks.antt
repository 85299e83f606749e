-- A network in lent words: its metastates and arcs, read back and held.
use Rattle.std.specs.Prelude.{List, ◌∷◌, ℕ, ◌/◌, ◌≤◌, ◌<◌, min, length, take, drop}
use Rattle.definitions.specs.Building.{most_metastates, room_in}
use Rattle.definitions.specs.Lists.{◌!◌, IsIn}
use Rattle.definitions.specs.Matrices.{matrix_words}
use Rattle.definitions.specs.Metastates.{Metastate, metastate_size, metastate_words}
use Rattle.definitions.specs.Growing.{Room}
use Rattle.definitions.specs.Connecting.{Network, no_metastate}
use Rattle.matrix.specs.Shapes.{width_of, matrix_in}
use Rattle.index.specs.RecordWords.{RecordWithin}
use Rattle.growing.specs.declared.Sizes.{Sizes}
use Rattle.growing.specs.Chains.{Code, heads_in}
use Rattle.growing.specs.Kept.{Kept}
use Rattle.growing.specs.Steps.{held_in}
use Rattle.metastates.specs.Keys.{key_of}

-- the metastate that a record holds, and the one of a combination's number and a matrix in seven words
unfoldable pub metastate_in : (width : ℕ) → List ℕ → Metastate
metastate_in width words = record { number = words ! 0; carried = take width (drop 1 words) }

abbrev pub metastate_with : (half number : ℕ) → (columns : List ℕ) → Metastate
metastate_with half number columns = record { number = number; carried = matrix_in half columns }

-- how metastates of a book stand in words
abbrev pub metastate_code : (half : ℕ) → Code Metastate
metastate_code half =
    record {
      nothing = no_metastate;
      size = metastate_size half;
      words = metastate_words half;
      read = metastate_in (width_of half);
      key = λ x. key_of (x.number ∷ matrix_words x.carried);
    }

-- the network that so many records hold
abbrev pub network_held : (half : ℕ) → Sizes → (metastates arcs : List ℕ) → Network
network_held half sizes metastates arcs = held_in (metastate_code half) sizes metastates arcs

-- how many metastates lent words have room for
abbrev pub metastate_room : (half : ℕ) → (metastates : List ℕ) → ℕ
metastate_room half metastates = min (length metastates / metastate_size half) most_metastates

-- the room in lent words
abbrev pub room_of : (half : ℕ) → (metastates arcs : List ℕ) → Room
room_of half metastates arcs =
    room_in half (record { combinations = 0; metastates = length metastates; arcs = length arcs })

-- a place for one metastate more: its record, and its link
pub record HasPlace (half : ℕ) (metastates chains : List ℕ) (place : ℕ) : Type 0 where
  pub within : RecordWithin (metastate_size half) metastates place
  pub link : place < heads_in chains
  pub few : place < most_metastates
  pub narrow : half ≤ 3

-- metastates that are numbered below `count`
abbrev pub NumbersBelow : (count : ℕ) → List Metastate → Type 0
NumbersBelow count table = (x : Metastate) → IsIn x table → x.number < count

-- lent words that hold a network, with metastates that are numbered below `count`
pub record Holds (half count : ℕ) (net : Network) (metastates arcs chains : List ℕ) : Type 0 where
  pub kept : Kept (metastate_code half) (room_of half metastates arcs) net metastates arcs chains
  pub numbers : NumbersBelow count net.table
