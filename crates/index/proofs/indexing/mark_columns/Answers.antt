-- `indexing::mark_columns` meets its contract. The loop's invariant: the columns before `column` are marked.
use mathlib.Core.Path.{sym, ap, ◌∙◌}
use mathlib.Core.List.{List}
use Prim.Native.Nat.{ℕ, ◌+◌}
use native.Mathlib.Omega.{arith}
use lib.Seq.{get_or-drop}
use Rattle.definitions.specs.Lists.{◌!◌}
use Rattle.definitions.specs.Combinations.{combination_size}
use Rattle.definitions.proofs.Laws.Matrices.Sizes.{columns-held}
use Rattle.index.specs.RecordWords.{record_of, IsRecord}
use Rattle.index.specs.Laws.CutRecords.{cut-within, cut-is}
use Rattle.index.specs.Laws.Filling.{columns-none, columns-more, columns-all}
use Rattle.index.proofs.indexing.mark_columns.Goals as goal
use Rattle.index.proofs.indexing.mark_columns.Goals.{After-record_at-record}

-- the record that is cut out
record_is : (c : goal.After-record_at-record)
    → IsRecord (combination_size c.args.header.half)
    c.args.combinations.now c.args.number
    c.record_at-record.result.now
record_is c = cut-is c.combination_size.ensures c.record_at-record.ensures

pub record_at-record-requires : goal.record_at-record-requires
record_at-record-requires c =
    cut-within c.combination_size.ensures c.args.combinations.now c.args.number
    c.requires.within

pub loop-column-init : goal.loop-column-init
loop-column-init c = columns-none _

pub overflow_add-column : goal.overflow_add-column
overflow_add-column c =
    let pre = c.requires in
    record {
      fits = omega (arith, c.loop-column-test.true, c.wide-column-end.ensures, pre.narrow.half_few, pre.number_few);
    }

pub mark_column-requires : goal.mark_column-requires
mark_column-requires c =
    let pre = c.requires in (
      record {
        phones_few = pre.narrow.phones_few;
        blocks_few = pre.blocks_few;
        left = omega (arith, c.loop-column-test.true, c.wide-column-end.ensures, pre.narrow.half_few);
      },
      pre.number_few,
    )

pub loop-column-preserved : goal.loop-column-preserved
loop-column-preserved c =
    let a = c.args in
    let own = record_of (combination_size a.header.half) a.combinations.now a.number in
    columns-more c.loop-column.invariant
    (ap (λ (l : List ℕ). l ! (4 + c.loop-column.column)) (record_is (goal.at.loop-column-preserved c).After-record_at-record).is
    ∙ sym (get_or-drop 4 own c.loop-column.column 0))
    c.mark_column.ensures

pub returns : goal.returns
returns c =
    columns-all (omega (arith, c.loop-column-test.false, c.wide-column-end.ensures)) c.loop-column.invariant

pub bounds-record-column : goal.bounds-record-column
bounds-record-column c =
    let pre = c.requires in
    omega (
      arith,
      c.loop-column-test.true,
      c.wide-column-end.ensures,
      columns-held _ pre.narrow.half_few,
      (record_is (goal.at.bounds-record-column c).After-record_at-record).sized,
    )
