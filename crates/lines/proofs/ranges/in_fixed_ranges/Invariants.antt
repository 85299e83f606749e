-- `ranges::in_fixed_ranges` meets its contract. The loop's invariant: numbers before `field` lie in their
-- ranges.
use Rattle.lines.specs.Laws.Ranges.{Judging}
use Rattle.lines.proofs.ranges.in_fixed_ranges.Given as goal

abbrev pub invariant-loop-field : goal.invariant-loop-field
invariant-loop-field l = Judging l.place l.used l.numbers l.field
