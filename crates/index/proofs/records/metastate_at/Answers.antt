-- `records::metastate_at` meets its contract: the first word of the record, and those after it.
use mathlib.Core.Path.{ap, ◌∙◌}
use mathlib.Core.List.{List}
use Prim.Native.Nat.{ℕ}
use lib.ListN.{drop}
use Rattle.definitions.specs.Lists.{◌!◌}
use Rattle.definitions.specs.Metastates.{metastate_size}
use Rattle.matrix.specs.Words.{first_seven}
use Rattle.index.specs.RecordWords.{IsRecord}
use Rattle.index.specs.Laws.CutRecords.{cut-within, cut-is}
use Rattle.index.proofs.records.metastate_at.Goals as goal
use Rattle.index.proofs.records.metastate_at.Goals.{After-record_at-record}

-- the record that is cut out
own : (c : goal.After-record_at-record)
    → IsRecord (metastate_size c.args.half)
    c.args.metastates.now
    c.args.place c.record_at-record.result.now
own c = cut-is c.metastate_size.ensures c.record_at-record.ensures

pub record_at-record-requires : goal.record_at-record-requires
record_at-record-requires c =
    cut-within c.metastate_size.ensures c.args.metastates.now c.args.place c.requires.1

pub returns : goal.returns
returns c =
    let cut = own (goal.at.returns c).After-record_at-record in
    record {
      number_is = ap (λ (l : List ℕ). l ! 0) cut.is;
      columns_are = c.matrix_at.ensures ∙ ap (λ (l : List ℕ). first_seven (drop 1 l)) cut.is;
    }
