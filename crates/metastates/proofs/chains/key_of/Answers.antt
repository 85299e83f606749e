-- `chains::key_of` meets its contract. The loop's invariant: the columns before the index are taken in, the rest left.
use Rattle.std.proofs.Common.{rules, arith, ◌≡◌, length}
use Rattle.metastates.specs.Laws.Keys.{keyed-start, keyed-more, keyed-end}
use Rattle.metastates.proofs.chains.key_of.Goals as goal

pub loop-column-init : goal.loop-column-init
loop-column-init c = keyed-start c.args.number c.args.m.columns

pub loop-column-preserved : goal.loop-column-preserved
loop-column-preserved c =
    let sized : length c.args.m.columns ≡ 7 = search rules in
    keyed-more c.loop-column.invariant (omega (arith, sized, c.loop-column-test.true))

pub returns : goal.returns
returns c =
    let sized : length c.args.m.columns ≡ 7 = search rules in
    (keyed-end c.loop-column.invariant (omega (arith, sized, c.loop-column-test.false)), omega arith)
