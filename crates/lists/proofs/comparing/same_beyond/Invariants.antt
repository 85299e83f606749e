-- `comparing::same_beyond` meets its contract. The loop's invariant: the matrices before `place` are the same.
use Rattle.lists.specs.Laws.Comparing.{AlikeLists, list_beyond}
use Rattle.lists.proofs.comparing.same_beyond.Given as goal

abbrev pub invariant-loop-place : goal.invariant-loop-place
invariant-loop-place l = AlikeLists (list_beyond l.half l.first l.a) (list_beyond l.half l.first l.b) l.place
