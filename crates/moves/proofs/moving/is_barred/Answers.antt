-- `moving::is_barred` meets its contract.
use Rattle.std.proofs.Common.{rules}
use borrow.Author.Tests.{tests}
use Rattle.definitions.specs.Joining.{may_enter}
use Rattle.moves.specs.Laws.Moving.{by-closing}
use Rattle.moves.proofs.moving.is_barred.Goals as goal

pub returns-then-to-eq1 : goal.returns-then-to-eq1
unfolding may_enter
returns-then-to-eq1 c = by-closing c.args.to c.args.mark.word c.args.mark.mark c.ne.result c.if-to-eq1.true c.ne.ensures

pub returns-else-to-eq1 : goal.returns-else-to-eq1
unfolding may_enter
returns-else-to-eq1 c = search (rules, tests)
