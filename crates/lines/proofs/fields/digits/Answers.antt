-- `fields::digits` meets its contract. The loop's invariant: the bytes so far are digits of `value`.
use mathlib.Core.Path.{sym}
use Rattle.definitions.proofs.Laws.Lists.Tests.{held, failed}
use mathlib.Core.Logic.{inl, inr}
use Prim.Native.Nat.{◌-◌}
use native.Mathlib.Omega.{arith}
use Rattle.std.proofs.lemmas.Bool.{not_from_true, not_from_false}
use borrow.Author.Rules.{rules}
use Rattle.definitions.specs.Numerals.{is_digit}
use Rattle.lines.specs.Rows.{field_in}
use Rattle.lines.specs.Laws.Fields.{digits-none, leading-zero, digits-start, value-small}
use Rattle.lines.specs.Laws.Fields.{digit-other, digit-next, digits-end}
use Rattle.lines.proofs.fields.digits.Goals as goal
use Rattle.lines.proofs.fields.digits.Goals.{else-bytes-gt1-via-then-bytes-gt1+else-bytes-eq48, else-bytes-gt1-via-else-bytes-gt1}

pub returns-then-is_empty : goal.returns-then-is_empty
unfolding field_in
returns-then-is_empty c = sym (digits-none _ (search rules))

pub returns-then-bytes-eq48 : goal.returns-then-bytes-eq48
unfolding field_in
returns-then-bytes-eq48 c = sym (leading-zero _ c.if-bytes-gt1.true c.if-bytes-eq48.true)

pub loop-byte-init : goal.loop-byte-init
loop-byte-init c =
    digits-start _ (search rules)
    (elim c.else-bytes-gt1.branch [ else-bytes-gt1-via-then-bytes-gt1+else-bytes-eq48 w ↦ inr w.if-bytes-eq48.false | else-bytes-gt1-via-else-bytes-gt1 w ↦ inl w.if-bytes-gt1.false ])

pub returns-then-not-is_ascii_digit : goal.returns-then-not-is_ascii_digit
unfolding field_in is_digit
returns-then-not-is_ascii_digit c =
    sym (digit-other c.loop-byte.invariant c.loop-byte-test.true
    (failed c.is_ascii_digit.ensures.value (not_from_false _ c.if-not-is_ascii_digit.true)))

pub overflow_mul-value : goal.overflow_mul-value
overflow_mul-value c =
    let at = c.loop-byte in
    omega (arith, value-small at.value at.byte-index (5 - at.byte-index) (omega arith) at.invariant.below)

pub overflow_add-value : goal.overflow_add-value
overflow_add-value c =
    let at = c.loop-byte in
    omega (arith, value-small at.value at.byte-index (5 - at.byte-index) (omega arith) at.invariant.below)

pub loop-byte-preserved : goal.loop-byte-preserved
unfolding is_digit
loop-byte-preserved c =
    let digit = held c.is_ascii_digit.ensures.value (not_from_true _ c.if-not-is_ascii_digit.false) in
    digit-next c.loop-byte.invariant _ c.loop-byte-test.true digit (search rules)

pub returns : goal.returns
unfolding field_in
returns c = sym (digits-end c.loop-byte.invariant c.loop-byte-test.false)
