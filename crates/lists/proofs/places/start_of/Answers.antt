-- `places::start_of` meets its contract: seven times eight is not much.
use Prim.Native.Nat.{◌*◌, ◌≤◌}
use native.Mathlib.Nat.{mul-le-mul}
use native.Mathlib.Omega.{arith}
use Rattle.definitions.specs.Matrices.{most_columns}
use Rattle.definitions.specs.MatrixLists.{most_matrices}
use Rattle.definitions.proofs.Laws.Matrices.Sizes.{words-few}
use Rattle.lists.proofs.places.start_of.Goals as goal
use Rattle.lists.proofs.places.start_of.Goals.{After-matrix_size}

few : (c : goal.After-matrix_size) → c.matrix_size.result * c.args.place ≤ most_columns * most_matrices
few c =
    let pre = c.requires in
    let small : c.matrix_size.result ≤ most_columns =
    omega (arith, c.matrix_size.ensures.0, words-few _ pre.0) in
    mul-le-mul small pre.1

pub overflow_mul-result : goal.overflow_mul-result
overflow_mul-result c = record { fits = omega (arith, few (goal.at.overflow_mul-result c).After-matrix_size) }

pub overflow_add-result : goal.overflow_add-result
overflow_add-result c = record { fits = omega (arith, few (goal.at.overflow_add-result c).After-matrix_size) }

pub returns : goal.returns
returns c = rw c.matrix_size.ensures.0
