-- `choosing::next_fit` meets its contract. The loop's invariant: the leaves before `place` do not fit.
use lib.ListN.{length, take}
use Rattle.definitions.specs.Searching.{NoneFrom}
use Rattle.matrix.specs.Shapes.{width_of}
use Rattle.leafsets.specs.Leaves.{leaves_in}
use Rattle.choices.specs.Choices.{fits_at}
use Rattle.choices.proofs.choosing.next_fit.Given as goal

abbrev pub invariant-loop-place : goal.invariant-loop-place
invariant-loop-place l =
    NoneFrom (fits_at (take (width_of l.half) l.m.columns) (leaves_in (width_of l.half) l.leaves))
    (length (leaves_in (width_of l.half) l.leaves)) l.from l.place
