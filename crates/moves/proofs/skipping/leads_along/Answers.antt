-- `skipping::leads_along` meets its contract, by what is wanted.
use Rattle.std.proofs.Common.{rules}
use borrow.Author.Tests.{tests}
use Rattle.moves.specs.Skipping.{leads_along}
use Rattle.moves.proofs.skipping.leads_along.Goals as goal

pub returns-in-Words : goal.returns-in-Words
unfolding leads_along
returns-in-Words c = search (rules, tests)

pub returns-then-phone-eq0 : goal.returns-then-phone-eq0
unfolding leads_along
returns-then-phone-eq0 c = search (rules, tests)

pub returns-else-phone-eq0 : goal.returns-else-phone-eq0
unfolding leads_along
returns-else-phone-eq0 c = search (rules, tests)

pub returns-in-Nothing : goal.returns-in-Nothing
unfolding leads_along
returns-in-Nothing c = search (rules, tests)
