-- `writing::write_number` meets its contract. The loop's invariant: the field's text is the bytes that are
-- still to be written, and those of the buffer after them.
use mathlib.Core.Path.{sym, ◌∙◌}
use native.Mathlib.Omega.{arith}
use lib.ListN.{length-set}
use Rattle.writing.specs.Laws.Writing.{leading-first, leading-more, leading_end}
use Rattle.writing.proofs.writing.write_number.Goals as goal

pub loop-i-init : goal.loop-i-init
loop-i-init c =
    let a = c.args in
    let first = leading-first a.n c.digit_byte.result a.field.now (omega arith) (omega arith) in
    (simp length-set (omega arith), first c.digit_byte.ensures)

pub loop-i-preserved : goal.loop-i-preserved
loop-i-preserved c =
    let at = c.loop-i in
    let byte = c.last_byte in
    let more = leading-more at.i at.rest byte.result at.field (omega arith) (omega arith) in
    (simp length-set (omega arith), at.invariant.1 ∙ more byte.ensures)

pub returns : goal.returns
returns c =
    let at = c.loop-i in
    sym (at.invariant.1 ∙ leading_end at.i at.rest at.field (omega arith))
