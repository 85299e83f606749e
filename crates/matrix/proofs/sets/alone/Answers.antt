-- `sets::alone` meets its contract: a shifted 1 is the phone alone.
use Rattle.std.proofs.Common.{rules}
use Rattle.matrix.specs.Laws.Sets.{alone-none, alone-within}
use Rattle.matrix.proofs.sets.alone.Goals as goal

pub returns-in-1-to-64 : goal.returns-in-1-to-64
returns-in-1-to-64 c = alone-within c.args.phone (search rules) (search rules)

pub returns-in_default : goal.returns-in_default
returns-in_default c = alone-none c.args.phone (search rules)
