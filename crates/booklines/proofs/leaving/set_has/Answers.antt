-- `leaving::set_has` meets its contract: a word has no phone beyond 64.
use borrow.Author.Tests.{lt-leb}
use Rattle.matrix.specs.Laws.Sets.{has-beyond}
use Rattle.booklines.proofs.leaving.set_has.Goals as goal

pub returns-else-phone-le64 : goal.returns-else-phone-le64
returns-else-phone-le64 c =
    rw (lt-leb _ _ c.if-phone-le64.false) (has-beyond c.args.phone c.args.set c.ranges.set.fits c.if-phone-le64.false)
