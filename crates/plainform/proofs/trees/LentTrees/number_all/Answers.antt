-- `LentTrees::number_all` meets its contract. The loop's invariant: what is left to put from root `i` on, put into
-- the tables as they are, gives what all trees put into the tables at the start give.
use native.Mathlib.Omega.{arith}
use Rattle.plainform.specs.Laws.LentTrees.{root-listed}
use Rattle.plainform.specs.Laws.Numbering.{own_room, all_more, all_end}
use Rattle.plainform.proofs.trees.LentTrees.number_all.Goals as goal

pub number_root-at-requires : goal.number_root-at-requires
number_root-at-requires c =
    let (listed, room, _) = c.requires in
    (root-listed listed c.loop-i.i (omega arith), own_room c.loop-i.invariant (omega arith) room)

pub loop-i-preserved : goal.loop-i-preserved
loop-i-preserved c =
    let done = c.number_root-at in
    let started = c.start_of in
    let (_, room, few) = c.requires in
    all_more c.loop-i.invariant (omega arith) done.ensures started.result started.ensures room few
    done.auto.table

pub returns : goal.returns
returns c =
    let all =
    all_end c.loop-i.invariant (omega arith) in
    record { table = all.0; starts = all.1 }
