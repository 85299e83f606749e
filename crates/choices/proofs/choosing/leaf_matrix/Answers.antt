-- `choosing::leaf_matrix` meets its contract: seven words are there after the node.
use mathlib.Core.Path.{◌∙◌}
use Prim.Native.Nat.{◌+◌, ◌*◌}
use native.Mathlib.Omega.{arith}
use Rattle.matrix.specs.Laws.Words.{seven-there}
use Rattle.leafsets.specs.Leaves.{leaf_size}
use Rattle.choices.proofs.choosing.leaf_matrix.Goals as goal

pub returns : goal.returns
returns c =
    c.whole_matrix.ensures
    ∙ seven-there c.args.leaves.now (leaf_size * c.args.place + 1) (omega (arith, c.requires))
