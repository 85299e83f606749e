-- `shifting::shift_into` meets its contract. The loop's invariant: the matrices before `place` are shifted.
use Rattle.lists.specs.Held.{list_in}
use Rattle.lists.specs.Shifting.{shifted_by}
use Rattle.lists.specs.Laws.Shifting.{Mapped}
use Rattle.lists.proofs.shifting.shift_into.Given as goal

abbrev pub invariant-loop-place : goal.invariant-loop-place
invariant-loop-place l =
    Mapped l.half (shifted_by l.all) (list_in l.half l.list) l.place l.initial.out l.out
