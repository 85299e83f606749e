-- The network of a book as a graph: its elements are the metastates of a table, with their starts, followers
-- and ends, their models and phones; and what it is that a build from a sound book finished it.
-- demand/ProperNetwork.antt shows that it is proper then.
use Rattle.std.specs.Prelude.{◌≡◌, List, ℕ}
use Rattle.definitions.specs.Faults.{answered}
use Rattle.definitions.specs.Tables.{Book}
use Rattle.definitions.specs.Combinations.{combinations}
use Rattle.definitions.specs.Metastates.{Metastate, same_metastate}
use Rattle.definitions.specs.Lists.{place_of}
use Rattle.definitions.specs.Growing.{Room, finished}
use Rattle.definitions.specs.Connecting.{Rules, rules_of, Network, connect}
use Rattle.definitions.proofs.Laws.Books.Sound.{Sound}
use Rattle.definitions.proofs.Graph.Graph.{Graph}

-- the rules of a book
abbrev pub book_rules : Book → Rules
book_rules book = rules_of book (combinations book)

-- what is stored of a metastate is all of it, so starts and followers stand in the table as they are
abbrev pub graph_of : Book → (table : List Metastate) → Graph Metastate
graph_of book table =
    record {
      states = (book_rules book).states;
      table = table;
      place = place_of same_metastate table;
      starts = (book_rules book).starts;
      followers = (book_rules book).followers;
      ends = (book_rules book).ending;
      models = (book_rules book).models;
      phone = (book_rules book).phone;
    }

-- a build from a sound book finished this network
pub record BuiltFrom (book : Book) (net : Network) : Type 0 where
  pub sound : Sound book
  pub room : Room
  pub limit : ℕ
  pub turns : ℕ
  pub connects : connect (book_rules book) room limit ≡ answered (finished turns net)
