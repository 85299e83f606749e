-- `indexing::mark_all` meets its contract. The loop's invariant: the combinations before `number` are marked.
use Prim.Native.Nat.{◌<◌}
use native.Mathlib.Omega.{arith}
use Rattle.definitions.specs.Combinations.{combination_size}
use Rattle.definitions.proofs.Laws.Lists.Records.{record-within}
use Rattle.index.specs.RecordWords.{count_in}
use Rattle.index.specs.Laws.Filling.{all_none, all_more, all-marked}
use Rattle.index.proofs.indexing.mark_all.Goals as goal

pub loop-number-init : goal.loop-number-init
loop-number-init c = all_none _ _ _

pub mark_columns-requires : goal.mark_columns-requires
mark_columns-requires c =
    let (narrow, few) = c.requires in
    let count = c.count_of-number-end.ensures in
    let listed : c.loop-number.number < count_in c.args.header.half c.args.combinations.now =
    omega (arith, c.loop-number-test.true, count) in
    record {
      narrow = narrow;
      blocks_few = omega (arith, c.blocks_in-blocks.ensures, few);
      number_few = omega (arith, listed, few);
      within = record-within (combination_size c.args.header.half) c.loop-number.number listed;
    }

pub loop-number-preserved : goal.loop-number-preserved
loop-number-preserved c =
    all_more c.loop-number.invariant c.blocks_in-blocks.ensures c.mark_columns.ensures

pub returns : goal.returns
returns c =
    all-marked (omega (arith, c.loop-number-test.false, c.count_of-number-end.ensures)) c.loop-number.invariant
