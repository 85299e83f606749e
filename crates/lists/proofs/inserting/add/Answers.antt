-- `inserting::add` meets its contract: only a valid matrix is put in.
use mathlib.Core.Path.{◌≡◌, ap, ◌∙◌}
use Prim.Native.Nat.{ℕ}
use lib.ListN.{take}
use Rattle.definitions.specs.Matrices.{valid}
use Rattle.definitions.proofs.Laws.Lists.Tests.{held, failed}
use Rattle.matrix.specs.Shapes.{matrix_in}
use Rattle.lists.specs.Laws.Meeting.{added-valid, added-invalid}
use Rattle.std.proofs.lemmas.Bool.{not_from_true}
use Rattle.std.proofs.lemmas.Bool.{not_from_false}
use Rattle.lists.proofs.inserting.add.Goals as goal
use Rattle.lists.proofs.inserting.add.Goals.{After-valid}

-- the test is of the matrix
module _ (c : goal.After-valid) where
  tested : c.valid.result ≡ valid (matrix_in c.args.half c.args.m.columns)
  tested =
      c.valid.ensures
      ∙ ap (λ (k : ℕ). valid (take k c.args.m.columns)) c.width_of.ensures.0

pub returns-then-not-valid : goal.returns-then-not-valid
returns-then-not-valid c =
    let invalid = not_from_false _ c.if-not-valid.true in
    rw invalid (added-invalid _ (failed (tested (goal.at.returns-then-not-valid c).After-valid) invalid) c.requires)

pub returns-else-not-valid : goal.returns-else-not-valid
returns-else-not-valid c =
    added-valid _ (held (tested (goal.at.returns-else-not-valid c).After-valid) (not_from_true _ c.if-not-valid.false))
    c.insert.ensures
