-- `rows::stands_at` meets its contract: states are equal where their words are.
use Rattle.std.proofs.Common.{◌∙◌}
use Rattle.joined.specs.States.{joined_of}
use Rattle.joined.specs.Laws.Rows.{row-same}
use Rattle.joined.proofs.rows.stands_at.Goals as goal

pub returns : goal.returns
returns c = c.eq.ensures ∙ row-same _ _ c.requires _ (joined_of c.args.x) c.joined_at.ensures
