-- here alone code and definition are compared by what they are
use Rattle.std.proofs.Common.{refl, arith}
use Rattle.definitions.specs.Matrices.{matrix_size}
use Rattle.definitions.proofs.sizes.matrix_size.Goals as goal

pub returns : goal.returns
unfolding matrix_size
returns c = (refl, omega arith)
