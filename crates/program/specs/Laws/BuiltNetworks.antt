-- Every network that is built from lent tables, finished or stopped, is one that network text can hold: a build
-- judges first whether the tables are known, and known tables hold a sound book in range. So the test for
-- foreign arcs passes on the counts and the arc buffer of every build that answers, and the arcs decoded from
-- that buffer are those of the network.
use Rattle.std.specs.Prelude.{◌≡◌, ℕ, ◌<◌, T, length}
use Rattle.definitions.specs.declared.Header.{Header}
use Rattle.definitions.specs.Faults.{answered}
use Rattle.definitions.specs.Forms.{◌‥◌}
use Rattle.definitions.specs.BookLines.{leaf}
use Rattle.definitions.specs.Tables.{Tables, tables_book, book_in, tables_contents}
use Rattle.definitions.specs.ForeignTables.{tables_known}
use Rattle.definitions.specs.Lookup.{node_at}
use Rattle.definitions.specs.Arcs.{arcs_in}
use Rattle.definitions.specs.Connecting.{Built}
use Rattle.definitions.specs.Building.{Space, build, network_in, counts_in, buffers_left}
use Rattle.definitions.specs.NetworkText.{network_known}
use Rattle.definitions.specs.Ranges.{Within}
use Rattle.definitions.proofs.Laws.Books.Accepted.{leaf-fitting}
use Rattle.definitions.proofs.Demand.Assembly.{built-tables-known, build-connects, arcs-decoded}
use Rattle.definitions.proofs.Demand.BuiltKnown.{connected-known}
use Rattle.definitions.proofs.Laws.Books.KnownBooks.{known-stated, stated-sound}

-- the leaves of known tables have models in range
known-leaf : (header : Header) (tables : Tables) → T (tables_known header tables)
    → (node model : ℕ) → node < length (tables_book header tables).nodes
    → node_at (tables_book header tables).nodes node ≡ leaf model → Within (1 ‥ 65535) model
unfolding tables_book book_in tables_contents
known-leaf header tables known =
    leaf-fitting header (tables_book header tables).nodes
    (known-stated header tables known).nodes

module _ (header : Header) (tables : Tables) (space : Space) (limit : ℕ) (built : Built)
    (answers : build header tables space limit ≡ answered built)
  where
    -- network text can hold what is left
    pub built-known : T (network_known (counts_in header.states (network_in built))
        (buffers_left (tables_book header tables) space (build header tables space limit)).arcs)
    unfolding tables_book book_in tables_contents buffers_left
    built-known =
        let known = built-tables-known header tables space limit built answers in
        let s = known-stated header tables known in
        rw answers
        (connected-known (tables_book header tables)
        (stated-sound header (tables_contents header tables) s)
        s.in-range.states_range.high s.in-range.phones_range.high
        (λ node model h e. (known-leaf header tables known node model h e).high) space limit built
        (build-connects header tables space limit built answers))

    -- the arcs decoded from the buffer are the network's
    pub built-arcs : arcs_in (counts_in header.states (network_in built)).arcs
        (buffers_left (tables_book header tables) space (build header tables space limit)).arcs
        ≡ (network_in built).arcs
    built-arcs = arcs-decoded (tables_book header tables) space header.states built _ answers
