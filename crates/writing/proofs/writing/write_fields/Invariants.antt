-- `writing::write_fields` meets its contract. The loop's invariant: the fields before `field` are written, the
-- other bytes as they were.
use Prim.Native.Nat.{◌*◌}
use Rattle.lines.specs.Rows.{line_in}
use Rattle.lines.specs.Laws.Filling.{Filled}
use Rattle.writing.specs.Writing.{fields_text}
use Rattle.writing.proofs.writing.write_fields.Given as goal

abbrev pub invariant-loop-field : goal.invariant-loop-field
invariant-loop-field l =
    Filled (fields_text (line_in l.row).numbers) l.initial.bytes (6 * l.field) l.bytes
