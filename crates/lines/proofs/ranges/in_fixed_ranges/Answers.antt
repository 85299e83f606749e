-- `ranges::in_fixed_ranges` meets its contract. The loop's invariant: numbers before `field` lie in their
-- ranges.
use mathlib.Core.Path.{sym, ◌∙◌}
use native.Mathlib.Omega.{arith}
use Rattle.definitions.proofs.Laws.Lists.Tests.{held, failed}
use Rattle.lines.specs.Laws.Ranges.{judging-start, range-passed, range-left, ranges-end}
use Rattle.lines.specs.Laws.Ranges.{row-unknown, row-short, row-full}
use Rattle.std.proofs.lemmas.Bool.{not_from_true, not_from_false}
use Rattle.std.proofs.lemmas.Option.{MatchOption-at_none}
use borrow.Author.Rules.{rules}
use Rattle.lines.proofs.ranges.in_fixed_ranges.Goals as goal

pub returns-in_default : goal.returns-in_default
returns-in_default c = sym (row-unknown _ _ (MatchOption-at_none _ _ c.in_default.is c.place_of.ensures))

pub returns-then-row-used : goal.returns-then-row-used
returns-then-row-used c =
    let known = c.in-Some.ensures in
    sym (row-short _ _ _ known.0 known.1 (omega (arith, c.used_at-used.ensures)))

pub loop-field-init : goal.loop-field-init
loop-field-init c = judging-start _ _ _ c.in-Some.ensures.0 c.used_at-used.ensures (search rules)

pub returns-then-not-in_range : goal.returns-then-not-in_range
returns-then-not-in_range c =
    let j = c.loop-field.invariant in
    let out = failed c.in_range.ensures (not_from_false _ c.if-not-in_range.true) in
    sym (row-full _ _ _ j.known c.in-Some.ensures.1 (omega (arith, c.used_at-used.ensures, c.if-row-used.false))
    ∙ range-left j c.loop-field-test.true out)

pub loop-field-preserved : goal.loop-field-preserved
loop-field-preserved c =
    let in-it = held c.in_range.ensures (not_from_true _ c.if-not-in_range.false) in
    range-passed c.loop-field.invariant c.loop-field-test.true in-it

pub returns : goal.returns
returns c =
    let j = c.loop-field.invariant in
    sym (row-full _ _ _ j.known c.in-Some.ensures.1 (omega (arith, c.used_at-used.ensures, c.if-row-used.false))
    ∙ ranges-end j c.loop-field-test.false)
