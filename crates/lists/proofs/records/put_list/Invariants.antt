-- `records::put_list` meets its contract. The loop's invariant: the matrices before `place` are written.
use Rattle.lists.specs.Held.{list_in}
use Rattle.lists.specs.Laws.Records.{Written}
use Rattle.lists.proofs.records.put_list.Given as goal

abbrev pub invariant-loop-place : goal.invariant-loop-place
invariant-loop-place l = Written l.half (list_in l.half l.list) l.place l.out
