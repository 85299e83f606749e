-- The two lookups agree: over a table of words that holds only the header's records and over these records;
-- over node structs and over their words, with any number of zeros beyond them.
use Rattle.std.specs.Prelude.{◌≡◌, refl, Result}
use Rattle.std.proofs.Math.Path.{sym, ap, subst}
use Rattle.std.proofs.Common.{◌∙◌, arith}
use mathlib.Core.List.{List, ◌++◌}
use Prim.Native.Nat.{ℕ, ◌+◌, ◌-◌, ◌*◌}
use Rattle.std.proofs.Math.Dec.{T}
use Rattle.std.proofs.Math.ListN.{length}
use Rattle.definitions.specs.declared.Header.{Header}
use Rattle.definitions.specs.declared.Node.{Node}
use Rattle.definitions.specs.declared.Refusal.{Refusal}
use Rattle.definitions.specs.Faults.{judge}
use Rattle.definitions.specs.Said.{result_of}
use Rattle.definitions.specs.Lists.{concat_map, cleared, padded}
use Rattle.definitions.specs.BookReading.{node_size}
use Rattle.definitions.specs.Tables.{record_words, node_of, node_records}
use Rattle.definitions.specs.ForeignTables.{holds_only}
use Rattle.definitions.specs.Lookup.{leaf_lookup, leaf_lookup_in_table}
use Rattle.definitions.proofs.Laws.Lists.Tests.{if-true}
use Rattle.definitions.proofs.Laws.Lists.Members.{map_back}
use Rattle.definitions.proofs.Laws.Lists.Records.{flat-length}
use Rattle.definitions.proofs.Laws.Books.Tables.{written-nodes}
use Rattle.definitions.proofs.Laws.Books.AcceptedKnown.{holds-used}
use Rattle.trees.specs.declared.Walked.{Walked}
use Rattle.trees.specs.Answers.{walked_of}

-- ---- over a table of words and over its records

pub tables_agree : (header : Header) (classes words : List ℕ) (root : ℕ) (context : List ℕ)
    → T (holds_only (node_size * header.nodes) words)
    → leaf_lookup_in_table header classes words root context
    ≡ leaf_lookup header classes (node_records header words) root context
unfolding leaf_lookup_in_table judge
tables_agree header classes words root context h =
    if-true (holds_only (node_size * header.nodes) words) _ _ h

-- ---- over structs and over their words

record-sized : (node : Node) → length (record_words node) ≡ node_size
record-sized node = refl

-- the words of as many structs as the header says, and zeros
module _ (header : Header) (nodes : List Node) (counted : length nodes ≡ header.nodes) (beyond : ℕ) where
  abbrev words : List ℕ
  words = concat_map record_words nodes ++ cleared beyond

  -- hold only the header's records
  words-hold : T (holds_only (node_size * header.nodes) words)
  unfolding padded
  words-hold =
      let used : List ℕ = concat_map record_words nodes in
      let size : ℕ = length used + beyond in
      let own : node_size * header.nodes ≡ length used =
      ap (λ (n : ℕ). node_size * n) (sym counted) ∙ sym (flat-length record_words node_size record-sized nodes) in
      subst (λ (n : ℕ). T (holds_only (node_size * header.nodes) (used ++ cleared n)))
      {x = size - length used} {y = beyond} (omega arith)
      (holds-used size (node_size * header.nodes) used own (omega arith))

  -- and these are the structs
  words-records : node_records header words ≡ nodes
  unfolding node_of
  words-records =
      written-nodes record_words record-sized header nodes (cleared beyond) (sym counted)
      ∙ map_back record_words node_of nodes (λ node i. refl)

  pub structs-agree : (classes : List ℕ) (root : ℕ) (context : List ℕ)
      → leaf_lookup_in_table header classes (concat_map record_words nodes ++ cleared beyond) root context
      ≡ leaf_lookup header classes nodes root context
  structs-agree classes root context =
      tables_agree header classes words root context words-hold ∙ rw words-records

-- ---- the two entries

-- `structs::leaf_of` was lent as many structs as the header says, and `leaves::leaf_of` a table that begins
-- with their words and is 0 beyond them; the other arguments were the same. The premises are what the contracts
-- of the two entries ensure of their answers.
module _ (header : Header) (classes : List ℕ) (nodes : List Node) (root : ℕ) (context : List ℕ) (beyond : ℕ)
    (counted : length nodes ≡ header.nodes) (of-structs of_words : Result Walked Refusal)
    (structs-say : of-structs ≡ result_of walked_of (leaf_lookup header classes nodes root context))
    (words-say : of_words ≡ result_of walked_of
    (leaf_lookup_in_table header classes (concat_map record_words nodes ++ cleared beyond) root context))
  where
    -- then they answer the same, refusals too
    pub answers_agree : of-structs ≡ of_words
    answers_agree =
        let same = structs-agree header nodes counted beyond classes root context in
        structs-say ∙ sym (words-say ∙ ap (result_of walked_of) same)
