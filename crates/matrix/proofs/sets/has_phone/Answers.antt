-- `sets::has_phone` meets its contract: the bit worth 2^(phone-1); a word has none beyond 64.
use Rattle.std.proofs.Common.{rules}
use Rattle.matrix.specs.Laws.Sets.{has-zero, has-beyond, has-bit}
use Rattle.matrix.proofs.sets.has_phone.Goals as goal

pub returns-in-1-to-64 : goal.returns-in-1-to-64
returns-in-1-to-64 c = has-bit c.args.phone c.args.set (search rules)

pub returns-in_default : goal.returns-in_default
returns-in_default c = has-zero c.args.phone c.args.set (search rules)

pub returns-in_default-2 : goal.returns-in_default-2
returns-in_default-2 c = has-beyond c.args.phone c.args.set c.ranges.set.fits (search rules)
