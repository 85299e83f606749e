-- Combinations in lent words, and what is known of them: those of a book with known tables.
use Rattle.std.specs.Prelude.{◌≡◌, List, [], map, ℕ, ◌/◌, ◌≤◌, ◌<◌, ◌^◌, T, length, take, drop}
use Rattle.definitions.specs.Combinations.{most_combinations, Combination, combination_size, combination_words}
use Rattle.definitions.specs.declared.Header.{Header}
use Rattle.definitions.specs.Lists.{◌!◌, concat_map, records}
use Rattle.definitions.specs.PhoneSets.{has}
use Rattle.definitions.specs.Matrices.{valid}
use Rattle.definitions.specs.BookLines.{leaf}
use Rattle.definitions.specs.Tables.{Book}
use Rattle.definitions.specs.ForeignTables.{header_known}
use Rattle.definitions.specs.Lookup.{node_at}
use Rattle.definitions.specs.Metastates.{Metastate, numbered}
use Rattle.definitions.specs.Growing.{Machine}
use Rattle.definitions.specs.Connecting.{Rules, rules_of, connecting}
use Rattle.tables.specs.Usable.{book_with}
use Rattle.matrix.specs.Shapes.{width_of, matrix_in}

-- a combination read back from its record
unfoldable pub combination_in : Header → List ℕ → Combination
combination_in header words =
    record {
      phone = words ! 0;
      leaves = take header.states (drop 1 words);
      carried = matrix_in header.half (drop 4 words);
    }

-- the combinations in whole records
unfoldable pub combinations_in : Header → (words : List ℕ) → List Combination
combinations_in header words =
    map (combination_in header)
    (records (combination_size header.half) (length words / combination_size header.half) words)

-- what connecting needs of the book: its nodes, and not its classes and roots
abbrev pub nodes_book : Header → (nodes : List ℕ) → Book
nodes_book header nodes = book_with header nodes [] []

-- the rules of a network, and how it grows by them, from nodes and combinations in words
abbrev pub rules_in : Header → (nodes words : List ℕ) → Rules
rules_in header nodes words = rules_of (nodes_book header nodes) (combinations_in header words)

abbrev pub machine_in : Header → (nodes words : List ℕ) → Machine Metastate Metastate
machine_in header nodes words = connecting (rules_in header nodes words)

-- a combination of the book: its phone, a leaf for each state, whose matrices meet in a valid matrix, columns
-- that hold the book's phones, the centre none but its own
pub record IsCombination (header : Header) (c : Combination) : Type 0 where
  pub phone : 1 ≤ c.phone
  pub phones : c.phone ≤ header.phones
  pub states : length c.leaves ≡ header.states
  pub width : length c.carried ≡ width_of header.half
  pub valid : T (valid c.carried)
  pub below : (column : ℕ) → (c.carried ! column) < 2 ^ header.phones
  pub centre : (p : ℕ) → T (has p (c.carried ! header.half)) → p ≡ c.phone

-- words that hold combinations of the book, and nothing else
pub record Usable (header : Header) (words : List ℕ) : Type 0 where
  pub header-known : T (header_known header)
  pub few : length (combinations_in header words) ≤ most_combinations
  pub flat : words ≡ concat_map (combination_words header.half) (combinations_in header words)
  pub each : (number : ℕ) → number < length (combinations_in header words)
      → IsCombination header (numbered (combinations_in header words) number)

-- their leaves are leaves of the book
abbrev pub Modelled : Header → (nodes words : List ℕ) → Type 0
Modelled header nodes words =
    (number state : ℕ) → number < length (combinations_in header words) → state < header.states
    → (((numbered (combinations_in header words) number).leaves ! state) < header.nodes)
    × ((model : ℕ)
    × (node_at (nodes_book header nodes).nodes ((numbered (combinations_in header words) number).leaves ! state)
    ≡ leaf model))

-- both: nodes and combinations that can be connected
pub record Connectable (header : Header) (nodes words : List ℕ) : Type 0 where
  pub usable : Usable header words
  pub modelled : Modelled header nodes words

-- where the combinations of the phones up to one end: those before there have such phones, those from there
-- on greater ones
pub record EndsAt (combinations : List Combination) (ends : List ℕ) (phone : ℕ) : Type 0 where
  pub within : (ends ! phone) ≤ length combinations
  pub before : (number : ℕ) → number < (ends ! phone) → (numbered combinations number).phone ≤ phone
  pub after : (number : ℕ) → (ends ! phone) ≤ number → number < length combinations
      → phone < (numbered combinations number).phone

-- where the combinations of each phone end
pub record Ending (header : Header) (words ends : List ℕ) : Type 0 where
  pub sized : length ends ≡ 65
  pub ends_at : (phone : ℕ) → phone ≤ header.phones → EndsAt (combinations_in header words) ends phone
