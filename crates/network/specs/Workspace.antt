-- What connecting is given: the words of a book, cleared space for its network, and words to work with.
use Rattle.std.specs.Prelude.{◌≡◌, List, ℕ, ◌/◌, ◌≤◌, ◌<◌, length}
use Rattle.definitions.specs.declared.Header.{Header}
use Rattle.definitions.specs.Lists.{cleared}
use Rattle.definitions.specs.Connecting.{no_network}
use Rattle.index.specs.Combinations.{Connectable, Ending, combinations_in}
use Rattle.index.specs.Indexing.{ends_size, farthest}
use Rattle.growing.specs.Chains.{heads_in}
use Rattle.metastates.specs.Networks.{metastate_room, Holds}
use Rattle.followers.specs.Spans.{span_size}
use Rattle.followers.specs.Turns.{Searchable}

-- combinations that can be connected, where those of each phone end, and cleared space
pub record Ready (header : Header) (nodes words ends metastates arcs : List ℕ) : Type 0 where
  pub connectable : Connectable header nodes words
  pub ending : Ending header words ends
  pub metastates_clear : metastates ≡ cleared (length metastates)
  pub arcs_clear : arcs ≡ cleared (length arcs)

-- cleared words for chains, with more heads than the metastates have room for, cleared words for spans, and
-- words for an index
pub record Workspace (half : ℕ) (metastates chains spans index : List ℕ) : Type 0 where
  pub chains_clear : chains ≡ cleared (length chains)
  pub heads : metastate_room half metastates < heads_in chains
  pub slots : span_size ≤ length spans
  pub spans_clear : spans ≡ cleared (length spans)
  pub ends_room : ends_size ≤ length index
  pub index_small : length index ≤ farthest

-- as many words for these as the metastates that have room ask for
pub record Enough (half : ℕ) (metastates : List ℕ) (chains spans index : ℕ) : Type 0 where
  pub heads : metastate_room half metastates < chains / 2
  pub slots : span_size ≤ spans
  pub ends_room : ends_size ≤ index
  pub index_small : index ≤ farthest
  pub chains_small : chains < 4294967296
  pub spans_small : spans < 4294967296

-- no network yet
pub record Startable (header : Header) (nodes words index metastates arcs chains : List ℕ) : Type 0 where
  pub searchable : Searchable header nodes words index
  pub empty : Holds header.half (length (combinations_in header words)) no_network metastates arcs chains
