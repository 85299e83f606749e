-- `rows::joined_at` meets its contract: the three words at its place, one by one.
use mathlib.Core.Path.{sym, ap}
use Rattle.joined.specs.States.{joined_in}
use Rattle.joined.specs.Laws.Rows.{row_words}
use Rattle.joined.proofs.rows.joined_at.Goals as goal

pub returns : goal.returns
unfolding joined_in
returns c = sym (ap joined_in (row_words _ _ c.requires))
