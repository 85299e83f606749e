-- `indexing::note_ends` meets its contract. The loop's invariant: the ends before `i` were noted.
use native.Mathlib.Omega.{arith}
use Rattle.index.specs.Laws.Filling.{noted-none, noted_more, noted-all}
use Rattle.index.proofs.indexing.note_ends.Goals as goal

pub loop-i-init : goal.loop-i-init
loop-i-init c = noted-none _ _

pub loop-i-preserved : goal.loop-i-preserved
loop-i-preserved c =
    let (sized, room) = c.requires in
    noted_more c.loop-i.invariant (omega (arith, sized, c.loop-i-test.true)) room c.from.ensures

pub returns : goal.returns
returns c = let (sized, room) = c.requires in noted-all c.loop-i.invariant (omega (arith, sized, c.loop-i-test.false))
