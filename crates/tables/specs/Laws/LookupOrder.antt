-- The test of records, classes and a root: the definition of the lookup and the code ask its parts in different
-- orders.
use Rattle.std.specs.Prelude.{◌≡◌, refl, List, Bool, true, false, ◌&&◌, ℕ, ◌*◌, ltb, length}
use Rattle.std.proofs.Common.{eq-eqb}
use Rattle.definitions.specs.declared.Header.{Header}
use Rattle.definitions.specs.BookReading.{node_size}
use Rattle.definitions.specs.Tables.{node_records}
use Rattle.definitions.specs.ForeignTables.{header_known, nodes_known, holds_only, node_table_known, class_table_known}
use Rattle.definitions.specs.Lookup.{lookup_known}
use Rattle.definitions.proofs.Laws.Books.Tables.{node-records-length}

-- the length of the table is tested after the header, with its records; that there are as many of these as the
-- header says needs no test
pub lookup-order : (header : Header) (nodes classes : List ℕ) (root : ℕ)
    → (holds_only (node_size * header.nodes) nodes
    && lookup_known header classes (node_records header nodes) root)
    ≡ (header_known header && node_table_known header nodes && class_table_known header classes
    && ltb root header.nodes)
unfolding lookup_known node_table_known node_records
lookup-order header nodes classes root =
    rw (eq-eqb (length (node_records header nodes)) header.nodes (node-records-length header nodes))
    (shuffled (holds_only (node_size * header.nodes) nodes) (header_known header)
    (nodes_known header 0 (node_records header nodes)) (class_table_known header classes)
    (ltb root header.nodes))
  where
    shuffled : (a b c d e : Bool) → (a && (b && true && c && d && e)) ≡ (b && (a && c) && d && e)
    shuffled true true c d e = refl
    shuffled true false c d e = refl
    shuffled false true c d e = refl
    shuffled false false c d e = refl
