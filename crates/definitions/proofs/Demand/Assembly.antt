-- The parts put together for an accepted text and a finished build: the build connects the combinations of
-- the book of the lines, the arcs that are decoded from the arc buffer are those of the network, and what
-- the contexts reach in the tables is what the trees give by the lines.
use Rattle.std.specs.Prelude.{◌≡◌, ◌↔◌, List, ℕ, T}
use mathlib.Core.Logic.Iff
use Rattle.std.proofs.Common.{lit<}
use Rattle.definitions.specs.declared.Header.{Header}
use Rattle.definitions.specs.Faults.{Outcome, answered}
use Rattle.definitions.specs.BookLines.{BookLine, header_of}
use Rattle.definitions.specs.BookReading.{Lent, read_book}
use Rattle.definitions.specs.Tables.{Book, book_of, Tables, tables_left, tables_book}
use Rattle.definitions.specs.ForeignTables.{tables_known}
use Rattle.definitions.specs.Combinations.{Combination, combinations, combine}
use Rattle.definitions.specs.Arcs.{arcs_in}
use Rattle.definitions.specs.Growing.{finished}
use Rattle.definitions.specs.Connecting.{Network, Built, connect}
use Rattle.definitions.specs.Building.{Space, room_in, build, network_in, counts_in, buffers_of, buffers_left}
use Rattle.definitions.specs.Paths.{Carries}
use Rattle.definitions.specs.TreesGive.{Given}
use Rattle.definitions.proofs.Laws.Lists.Records.{arcs-read}
use Rattle.definitions.proofs.Laws.Text.Judging.{passes_at, judge-answered, and_then-answered}
use Rattle.definitions.proofs.Laws.Books.Books.{accepted-book}
use Rattle.definitions.proofs.Laws.Trees.ModelsAlong.{given_is}
use Rattle.definitions.proofs.Demand.Network.{book_rules, BuiltFrom}
use Rattle.definitions.proofs.Demand.Main.{book-exactly}
use Rattle.definitions.proofs.Laws.Books.TreesInForce.{accepted-sound}

module _ (header : Header) (tables : Tables) (space : Space) where
  -- the combinations that are connected are those of the book in the tables, which are known
  combined : (found : List Combination) → combine header tables space.combinations ≡ answered found
      → T (tables_known header tables)
      × (combinations (tables_book header tables) ≡ found)
  unfolding combine
  combined found e =
      let (passed, same) = judge-answered 0 _ _ found e in (passes_at _ passed 0 (lit< tt), cc)

  pub built-tables-known : (limit : ℕ) (built : Built) → build header tables space limit ≡ answered built
      → T (tables_known header tables)
  unfolding build
  built-tables-known limit built e =
      let choices = combine header tables space.combinations in
      let (found, combines, connects) = and_then-answered choices _ built e in
      (combined found combines).0

  pub build-connects : (limit : ℕ) (built : Built) → build header tables space limit ≡ answered built
      → connect (book_rules (tables_book header tables)) (room_in header.half space) limit ≡ answered built
  unfolding build
  build-connects limit built e =
      let choices = combine header tables space.combinations in
      let (found, combines, connects) = and_then-answered choices _ built e in
      rw (combined found combines).1 connects

-- the arcs decoded from the buffer that a build leaves, finished or stopped
pub arcs-decoded : (book : Book) (space : Space) (states : ℕ) (built : Built) (answer : Outcome Built)
    → answer ≡ answered built
    → arcs_in (counts_in states (network_in built)).arcs (buffers_left book space answer).arcs
    ≡ (network_in built).arcs
unfolding counts_in buffers_left buffers_of
arcs-decoded book space states built answer e = rw e (arcs-read space.arcs (network_in built).arcs)

module _ (lent : Lent) (text : List ℕ) (lines : List BookLine) (accepted : read_book lent text ≡ answered lines)
    (space : Space) (limit turns : ℕ) (net : Network)
    (built : build (header_of lines) (tables_left lent (read_book lent text)) space limit
    ≡ answered (finished turns net))
  where
    -- the tables hold the book of the lines, which is sound
    pub built-from : BuiltFrom (book_of lines) net
    built-from = record {
      sound = accepted-sound lent text lines accepted;
      room = room_in (header_of lines).half space;
      limit = limit;
      turns = turns;
      connects =
          rw (accepted-book lent text lines accepted) at
          (build-connects (header_of lines) (tables_left lent (read_book lent text)) space limit _ built);
    }

    pub exactly-by-lines : (M S : List ℕ)
        → ((places : List ℕ) × Carries net.arcs places M S) ↔ Given lines M S
    exactly-by-lines M S =
        Iff.trans (book-exactly (book_of lines) net built-from M S)
        (Iff.and Iff.rfl (Iff.symm (given_is lent text lines accepted S M)))
