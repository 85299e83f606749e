-- `fields::after_spaces` meets its contract. The loop's invariant: the bytes before `i` are spaces.
use mathlib.Core.Path.{◌≡◌}
use lib.ListN.{drop}
use Rattle.definitions.specs.Lines.{skip_spaces}
use Rattle.lines.proofs.fields.after_spaces.Given as goal

abbrev pub invariant-loop-i : goal.invariant-loop-i
invariant-loop-i l = skip_spaces l.bytes ≡ skip_spaces (drop l.i l.bytes)
