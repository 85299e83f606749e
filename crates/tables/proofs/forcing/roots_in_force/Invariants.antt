-- `forcing::roots_in_force` meets its contract. The loop's invariant: the words before the place are roots in force.
use mathlib.Core.Path.{◌≡◌}
use Rattle.definitions.specs.BookLines.{root_count}
use Rattle.tables.specs.Laws.Forcing.{Forcing}
use Rattle.tables.proofs.forcing.roots_in_force.Given as goal

abbrev pub invariant-loop-place : goal.invariant-loop-place
invariant-loop-place l =
    (l.count ≡ root_count l.header) × Forcing l.header l.roots l.plains l.initial.forced l.place l.forced
