-- `classes::put_classes` meets its contract. The loop's invariant: what is left to write, from the next class on.
use Prim.Native.Nat.{◌+◌}
use lib.ListN.{drop}
use Rattle.booktext.specs.Parts.{class_lines}
use Rattle.booktext.specs.Laws.Putting.{Left}
use Rattle.booktext.proofs.classes.put_classes.Given as goal

abbrev pub invariant-loop-i : goal.invariant-loop-i
invariant-loop-i l =
    Left (class_lines l.phones 1 l.sets) (class_lines l.phones (l.i + 1) (drop l.i l.sets)) l.initial.text l.count l.text l.next
