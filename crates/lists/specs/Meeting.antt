-- Whether two matrices meet validly, and whether a matrix meets one of a list so.
use Rattle.std.specs.Prelude.{Bool, List}
use Rattle.definitions.specs.Lists.{at_least_one}
use Rattle.definitions.specs.Matrices.{Matrix, meet, valid}

abbrev pub meets_by : Matrix → Matrix → Bool
meets_by m x = valid (meet m x)

abbrev pub meets_some : List Matrix → Matrix → Bool
meets_some l m = at_least_one (meets_by m) l
