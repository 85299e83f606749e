-- `writing::write_number` meets its contract. The loop's invariant: the field's text is the bytes that are
-- still to be written, and those of the buffer after them.
use mathlib.Core.Path.{◌≡◌}
use mathlib.Core.List.{◌++◌}
use lib.ListN.{length, drop}
use Rattle.definitions.specs.Lines.{field_text}
use Rattle.writing.specs.Writing.{leading}
use Rattle.writing.proofs.writing.write_number.Given as goal

abbrev pub invariant-loop-i : goal.invariant-loop-i
invariant-loop-i l =
    (length l.field ≡ 6) × (field_text l.n ≡ leading l.i l.rest ++ drop l.i l.field)
