-- `fields::digits` meets its contract. The loop's invariant: the bytes so far are digits of `value`.
use Rattle.lines.specs.Laws.Fields.{Reading}
use Rattle.lines.proofs.fields.digits.Given as goal

abbrev pub invariant-loop-byte : goal.invariant-loop-byte
invariant-loop-byte l = Reading l.bytes l.value l.byte-index
