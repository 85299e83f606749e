-- `yes_side` meets its contract: the cut by the class itself.
use Rattle.std.proofs.Common.{sym, ◌∙◌}
use Rattle.definitions.proofs.Laws.Matrices.Matrices.{yes-set}
use Rattle.matrix.proofs.Matrix.yes_side.Goals as goal

pub returns : goal.returns
returns c = c.cut.ensures ∙ sym (yes-set _ _ _)
