-- Laws about the tests of whole tables under a known header: nothing beyond the words that count, and the walk
-- over the nodes. The code's counts are those of the header, by the equations handed in.
use Rattle.std.specs.Prelude.{◌≡◌, List, [], true, false, ◌&&◌, ◌||◌, T, ℕ, ◌+◌, ◌*◌, ◌≤◌, ◌<◌, length, take, drop}
use Rattle.std.proofs.Math.Path.{sym, refl}
use Rattle.std.proofs.Common.{◌∙◌, add-one, arith, length-take-le, drop-cons, drop_of_length-le}
use Rattle.definitions.specs.declared.Header.{Header}
use Rattle.definitions.specs.declared.Node.{Node}
use Rattle.definitions.specs.BookLines.{root_count}
use Rattle.definitions.specs.BookReading.{node_size}
use Rattle.definitions.specs.Tables.{node_of, node_records}
use Rattle.definitions.specs.ForeignTables.{question_known, leaf_known, nodes_known, holds_only, node_table_known}
use Rattle.definitions.specs.ForeignTables.{header_known, class_table_known, root_table_known}
use Rattle.definitions.proofs.Laws.Lists.Tests.{T-three}
use Rattle.definitions.proofs.Laws.Books.Tables.{node-records-length}
use Rattle.definitions.proofs.Laws.Books.AcceptedKnown.{holds-padded}
use Rattle.definitions.proofs.Laws.Books.KnownBooks.{root-table-parts}
use Rattle.tables.specs.Records.{Gives}
use Rattle.tables.specs.Laws.KnownTables.{record-listed}

-- ---- a table's length, and nothing beyond

-- the words that count are all there
pub holds-taken : (count : ℕ) (words : List ℕ) → holds_only count words ≡ true
    → count ≡ length (take count words)
holds-taken count words h = sym (length-take-le count words (holds-padded count words (rw h tt)).0)

-- ---- roots

pub root-count : (header : Header) {phones states : ℕ} → phones ≡ header.phones → states ≡ header.states
    → phones * states ≡ root_count header
unfolding root_count
root-count header e f = rw (e, f)

pub roots-taken : (header : Header) (words : List ℕ) {count : ℕ} → count ≡ root_count header
    → root_count header ≤ length words → count ≡ length (take count words)
roots-taken header words {count} e h = sym (length-take-le count words (omega arith))

-- ---- nodes

-- the records before a node are known, so all are left to the others
pub record Judged (header : Header) (nodes : List Node) (at : ℕ) : Type 0 where
  pub within : at ≤ length nodes
  pub rest : nodes_known header 0 nodes ≡ nodes_known header at (drop at nodes)

pub judged-start : (header : Header) (nodes : List Node) → Judged header nodes 0
judged-start header nodes = record { within = omega arith; rest = refl }

module _ {answers : ℕ → Node → Type 0} {header : Header} {nodes : List Node} {at : ℕ}
    (g : Gives answers header.nodes nodes) (j : Judged header nodes at)
  where
    module _ (h : at < header.nodes) {node : Node} (own : answers at node) where
      next : nodes_known header 0 nodes
          ≡ ((question_known header at node || leaf_known node) && nodes_known header (at + 1) (drop (at + 1) nodes))
      unfolding nodes_known
      next = j.rest ∙ rw (drop-cons nodes at (node_of []) (omega (arith, g.counted)), add-one, ← g.own at h node own)

      pub judged-more : (question_known header at node || leaf_known node) ≡ true → Judged header nodes (at + 1)
      judged-more known = record { within = omega (arith, g.counted); rest = next ∙ rw known }

      pub judged-stop : (question_known header at node || leaf_known node) ≡ false → false ≡ nodes_known header 0 nodes
      judged-stop foreign = sym (next ∙ rw foreign)

    pub judged-end : header.nodes ≤ at → true ≡ nodes_known header 0 nodes
    unfolding nodes_known
    judged-end h = sym (j.rest ∙ rw (drop_of_length-le nodes {i = at} (omega (arith, g.counted))))

-- the words of a table give its records
pub words-give : (header : Header) (words : List ℕ) {answers : ℕ → Node → Type 0}
    → ((node : ℕ) (r : Node) → answers node r → r ≡ node_of (drop (node_size * node) words))
    → Gives answers header.nodes (node_records header words)
words-give header words says =
    record {
      counted = node-records-length header words;
      own = λ node h r k. says node r k ∙ sym (record-listed header words node h);
    }

-- what `named_once` asks holds once the records and the roots are known
pub once-asks : (header : Header) (nodes classes plains roots : List ℕ)
    → (header_known header && node_table_known header nodes && class_table_known header classes) ≡ true
    → root_table_known header (take header.phones plains) roots ≡ true
    → T (header_known header) × (root_count header ≤ length roots)
once-asks header nodes classes plains roots e f =
    let (own, _, _) = (T-three (header_known header) (node_table_known header nodes)
    (class_table_known header classes)).0 (rw e tt) in
    let (words, _) = root-table-parts header roots (take header.phones plains) (rw f tt) in
    (own, (holds-padded (root_count header) roots words).0)
