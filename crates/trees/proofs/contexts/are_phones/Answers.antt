-- `contexts::are_phones` meets its contract.
use Rattle.std.proofs.Common.{rules}
use borrow.Author.Tests.{tests}
use Rattle.definitions.specs.BookLines.{is_phone}
use Rattle.lines.specs.Laws.Chains.{every-by_all}
use Rattle.trees.proofs.contexts.are_phones.Goals as goal

pub returns : goal.returns
unfolding is_phone
returns c = every-by_all _ _ _ _ c.all.ensures.ran c.iter.ensures.rest (λ x b q k. search (rules, tests))
