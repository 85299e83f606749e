-- Document 01, "Connecting": the build from lent tables into lent space, and what every buffer holds
-- afterwards.
use Rattle.std.specs.Prelude.{List, ℕ, ◌/◌, min, length}
use Rattle.definitions.specs.declared.Header.{Header}
use Rattle.definitions.specs.declared.Counts.{Counts}
use Rattle.definitions.specs.Faults.{Outcome, answered, refused, and_then}
use Rattle.definitions.specs.Lists.{concat_map, cleared, padded}
use Rattle.definitions.specs.Tables.{Book, Tables, tables_book}
use Rattle.definitions.specs.Combinations.{combinations, combine, combination_words}
use Rattle.definitions.specs.Arcs.{arc_size, arc_words}
use Rattle.definitions.specs.Metastates.{metastate_size, metastate_words}
use Rattle.definitions.specs.Growing.{Room, grown_in}
use Rattle.definitions.specs.Connecting.{rules_of, Network, Built, connect}

-- the lengths of the lent space for combinations, metastates and arcs, in words
pub record Space : Type 0 where
  pub combinations : ℕ
  pub metastates : ℕ
  pub arcs : ℕ

-- "Only whole records of lent space count"; "At most 65535 metastates and 999999 arcs."
abbrev pub most_metastates : ℕ
most_metastates = 65535

abbrev pub most_arcs : ℕ
most_arcs = 999999

unfoldable pub room_in : (half : ℕ) → Space → Room
room_in half space =
    record {
      table = min (space.metastates / metastate_size half) most_metastates;
      arcs = min (space.arcs / arc_size) most_arcs;
    }

-- The build: 18, then 30, then 31 or 32 as construction meets them.
unfoldable pub build : Header → Tables → Space → (limit : ℕ) → Outcome Built
build header tables space limit =
    and_then (combine header tables space.combinations)
    (λ found. connect (rules_of (tables_book header tables) found) (room_in header.half space) limit)

-- The answer's numbers.
abbrev pub network_in : Built → Network
network_in built = grown_in built

-- "the counts of metastates and arcs", with k
unfoldable pub counts_in : (states : ℕ) → Network → Counts
counts_in states net =
    record { states = states; metastates = length net.table; arcs = length net.arcs }

-- What the build leaves in the lent space. "the words after the last record are 0, in metastate and arc
-- space too"
pub record Buffers : Type 0 where
  pub combinations : List ℕ
  pub metastates : List ℕ
  pub arcs : List ℕ

unfoldable pub buffers_of : Book → Space → Network → Buffers
buffers_of book space net =
    record {
      combinations = padded space.combinations (concat_map (combination_words book.half) (combinations book));
      metastates = padded space.metastates (concat_map (metastate_words book.half) net.table);
      arcs = padded space.arcs (concat_map arc_words net.arcs);
    }

-- "every word of every output buffer 0"
unfoldable pub no_buffers : Space → Buffers
no_buffers space =
    record {
      combinations = cleared space.combinations;
      metastates = cleared space.metastates;
      arcs = cleared space.arcs;
    }

unfoldable pub buffers_left : Book → Space → Outcome Built → Buffers
buffers_left book space (answered built) = buffers_of book space (network_in built)
buffers_left book space (refused r) = no_buffers space
