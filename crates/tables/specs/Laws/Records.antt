-- Laws about the records of nodes: the words of each in the table of nodes, and the records from a node on.
use Rattle.std.specs.Prelude.{◌≡◌, List, [], ◌∷◌, ℕ, suc, ◌+◌, ◌-◌, ◌*◌, ◌≤◌, ◌<◌, length, take, drop}
use borrow.Rule.Slice.PartMut.{put_mid}
use mathlib.Core.List.{append_assoc}
use Rattle.std.proofs.Common.{sym, add-zero, arith, get_or-drop, drop-drop}
use Rattle.std.proofs.Math.Nat.{sub-zero}
use Rattle.definitions.specs.declared.Header.{Header}
use Rattle.definitions.specs.Lists.{◌!◌, records}
use Rattle.definitions.specs.BookReading.{node_size}
use Rattle.definitions.specs.Tables.{node_of, node_records}
use Rattle.definitions.proofs.Laws.Books.Tables.{node-of-first}
use Rattle.lines.specs.Putting.{put_at}
use Rattle.tables.specs.Usable.{records_from}

-- five words from a place on are a record
pub node-from-words : (words : List ℕ) (at : ℕ) {kind value position yes_node no_node : ℕ}
    → kind ≡ words ! at → value ≡ words ! (at + 1) → position ≡ words ! (at + 2)
    → yes_node ≡ words ! (at + 3) → no_node ≡ words ! (at + 4)
    → record { kind = kind; value = value; position = position; yes = yes_node; no = no_node }
    ≡ node_of (drop at words)
unfolding node_of
node-from-words words at a b c d e = rw (a, b, c, d, e) (simp (get_or-drop, add-zero))

-- the records from a node on: from the first, from the next, and beyond the last
pub records-start : (header : Header) (words : List ℕ)
    → node_records header words ≡ records_from header.nodes 0 words
unfolding node_records
records-start header words = rw sub-zero

pub records-next : (nodes at : ℕ) (words : List ℕ) → at < nodes
    → records_from nodes at words ≡ node_of (drop (node_size * at) words) ∷ records_from nodes (at + 1) words
unfolding records
records-next nodes at words h =
    let left : nodes - at ≡ suc (nodes - (at + 1)) = omega arith in
    let place : node_size * at + node_size ≡ node_size * (at + 1) = omega arith in
    rw (left, drop-drop node_size (node_size * at) words, place, node-of-first (drop (node_size * at) words))

pub records-end : (nodes at : ℕ) (words : List ℕ) → nodes ≤ at → records_from nodes at words ≡ []
unfolding records
records-end nodes at words h = let left : nodes - at ≡ 0 = omega arith in rw left

-- words copied into the middle of a table are put there
pub mid-put : (at count : ℕ) (words table : List ℕ) → count ≡ length words
    → put_mid at count table words ≡ put_at at words table
unfolding put_at
mid-put at count words table e = rw (e, drop-drop (length words) at table) (sym (append_assoc (take at table) words (drop (at + length words) table)))
