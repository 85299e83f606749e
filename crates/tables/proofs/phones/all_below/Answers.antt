-- `phones::all_below` meets its contract.
use Rattle.std.proofs.Common.{rules}
use borrow.Author.Tests.{tests}
use Rattle.lines.specs.Laws.Chains.{every-by_all}
use Rattle.tables.proofs.phones.all_below.Goals as goal

pub returns : goal.returns
returns c = every-by_all _ _ _ _ c.all.ensures.ran c.iter.ensures.rest (λ x b q k. search (rules, tests))
