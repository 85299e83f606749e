-- `known::phones_known` meets its contract: the closure's test is the definition's.
use Rattle.std.proofs.Common.{rules}
use borrow.Author.Tests.{tests}
use Rattle.definitions.specs.BookLines.{is_phone}
use Rattle.lines.specs.Laws.Chains.{every-by_all}
use Rattle.words.proofs.known.phones_known.Goals as goal

pub returns : goal.returns
unfolding is_phone
returns c = every-by_all _ _ _ _ c.all.ensures.ran (cc) (λ x b q k. search (rules, tests))
