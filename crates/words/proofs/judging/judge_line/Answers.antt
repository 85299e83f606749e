-- `judging::judge_line` meets its contract: it puts the tests in their order, and the first that fails gives the
-- verdict.
use mathlib.Core.Path.{refl}
use lib.ListN.{drop}
use Rattle.lines.specs.Judging.{verdict_of}
use Rattle.lines.specs.Rows.{line_in}
use Rattle.lines.specs.Laws.Judging.{LeftTo, test-held, test-failed, none-failed}
use Rattle.words.specs.Entries.{entry_line}
use Rattle.words.specs.Taking.{tests_in}
use Rattle.std.proofs.lemmas.Bool.{not_from_true}
use Rattle.std.proofs.lemmas.Bool.{not_from_false}
use Rattle.words.proofs.judging.judge_line.Goals as goal
use Rattle.words.proofs.judging.judge_line.Goals.{Else-not-in_fixed_ranges}

pub returns-then-not-in_fixed_ranges : goal.returns-then-not-in_fixed_ranges
unfolding tests_in
returns-then-not-in_fixed_ranges c = test-failed (record { same = refl }) c.in_fixed_ranges.ensures (not_from_false _ c.if-not-in_fixed_ranges.true)

-- the verdict is left to the second test
left : (c : goal.Else-not-in_fixed_ranges) → let a = c.args in
    let tests = tests_in (entry_line a.last) (line_in a.row) (entry_line a.line) in
    LeftTo (verdict_of tests) (drop 1 tests)
unfolding tests_in
left c = test-held (record { same = refl }) c.in_fixed_ranges.ensures (not_from_true _ c.if-not-in_fixed_ranges.false)

pub returns-then-not-comes_next : goal.returns-then-not-comes_next
unfolding tests_in
returns-then-not-comes_next c = test-failed (left (goal.at.returns-then-not-comes_next c).Else-not-in_fixed_ranges) c.comes_next.ensures (not_from_false _ c.if-not-comes_next.true)

pub returns : goal.returns
unfolding tests_in
returns c =
    none-failed (test-held (left (goal.at.returns c).Else-not-in_fixed_ranges) c.comes_next.ensures (not_from_true _ c.if-not-comes_next.false))
