-- A growing table in lent words: its elements by their code, found by chains, and its arcs.
use Rattle.std.specs.Prelude.{◌≡◌, List, ℕ, ◌*◌, ◌≤◌, ◌<◌, length}
use Rattle.definitions.specs.Lists.{concat_map, padded, IsIn, Distinct}
use Rattle.definitions.specs.Arcs.{arc_size, arcs_in, arc_words}
use Rattle.definitions.specs.Growing.{Grown, Room}
use Rattle.growing.specs.Chains.{Code, Coded, elements_of, heads_in, Linked}

-- what so many elements and arcs at the front of words make
abbrev pub grown_held : {X : Type 0} → Code X → (elements count : ℕ) → (table arcs : List ℕ) → Grown X
grown_held code elements count table arcs =
    record { table = elements_of code elements table; arcs = arcs_in count arcs }

-- words that hold what has grown and nothing else, within their room, with links for as many elements as have room;
-- its elements are told by their words, and none stands twice
pub record Kept {X : Type 0} (code : Code X) (room : Room) (net : Grown X) (table arcs chains : List ℕ)
    : Type 0 where
  pub table-words : table ≡ padded (length table) (concat_map code.words net.table)
  pub arc-words : arcs ≡ padded (length arcs) (concat_map arc_words net.arcs)
  pub table_fits : code.size * room.table ≤ length table
  pub arcs-fit : arc_size * room.arcs ≤ length arcs
  pub table-room : length net.table ≤ room.table
  pub arc-room : length net.arcs ≤ room.arcs
  pub link-room : room.table < heads_in chains
  pub linked : Linked code (heads_in chains) chains net.table
  pub once : Distinct net.table
  pub coded : (x : X) → IsIn x net.table → Coded code x
