-- `records::model_of` meets its contract: the value of the leaf that the record names.
use mathlib.Core.Path.{◌≡◌, sym, ap, ◌∙◌}
use mathlib.Core.List.{List}
use Prim.Native.Nat.{ℕ, ◌+◌, ◌*◌}
use lib.ListN.{drop}
use lib.Seq.{get_or-drop}
use Rattle.definitions.specs.declared.Node.{Node}
use Rattle.definitions.specs.Lists.{◌!◌}
use Rattle.definitions.specs.BookReading.{node_size}
use Rattle.definitions.specs.Combinations.{combination_size}
use Rattle.definitions.specs.Tables.{node_of}
use Rattle.index.specs.RecordWords.{record_of, IsRecord, leaf_word}
use Rattle.index.specs.Laws.CutRecords.{cut-within, cut-is}
use Rattle.index.proofs.records.model_of.Goals as goal
use Rattle.index.proofs.records.model_of.Goals.{After-record_at-record}

-- the record that is cut out
own : (c : goal.After-record_at-record)
    → IsRecord (combination_size c.args.half)
    c.args.combinations.now
    c.args.number c.record_at-record.result.now
own c = cut-is c.combination_size.ensures c.record_at-record.ensures

-- the word that is read
word-is : (c : goal.After-record_at-record)
    → c.record_at-record.result.now ! (1 + c.args.state)
    ≡ leaf_word c.args.half c.args.combinations.now c.args.number c.args.state
word-is c =
    let a = c.args in
    ap (λ (l : List ℕ). l ! (1 + a.state)) (own c).is
    ∙ sym (get_or-drop 1 (record_of (combination_size a.half) a.combinations.now a.number) a.state 0)

pub record_at-record-requires : goal.record_at-record-requires
record_at-record-requires c =
    cut-within c.combination_size.ensures c.args.combinations.now c.args.number
    c.requires.within

pub returns : goal.returns
returns c =
    ap (λ (node : Node). node.value) c.node_at.ensures
    ∙ ap (λ (k : ℕ). (node_of (drop (node_size * k) c.args.nodes.now)).value) (word-is (goal.at.returns c).After-record_at-record)
