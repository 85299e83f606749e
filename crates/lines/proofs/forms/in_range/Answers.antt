-- `forms::in_range` meets its contract: the constant table is the definitions', entry by entry.
use mathlib.Core.Path.{◌∙◌}
use borrow.Author.Tests.{lt-leb}
use native.Mathlib.Omega.{arith}
use Rattle.lines.specs.Laws.Tables.{below-range, above-lowest, used-few}
use Rattle.lines.proofs.forms.in_range.Goals as goal

pub offset_bounds-place-field : goal.offset_bounds-place-field
offset_bounds-place-field c = omega (arith, used-few c.args.place c.requires.0)

pub bounds-field : goal.bounds-field
bounds-field c = omega (arith, used-few c.args.place c.requires.0)

pub returns-then-range-n : goal.returns-then-range-n
returns-then-range-n c = above-lowest _ c.requires.0 _ c.args.n c.requires.1 c.if-range-n.true

pub returns-else-range-n : goal.returns-else-range-n
returns-else-range-n c = lt-leb _ _ c.if-range-n.false ∙ below-range _ c.requires.0 _ c.args.n c.requires.1 c.if-range-n.false
