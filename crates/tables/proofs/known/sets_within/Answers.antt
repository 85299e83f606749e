-- `known::sets_within` meets its contract.
use Rattle.std.proofs.Common.{rules}
use borrow.Author.Tests.{tests}
use Rattle.lines.specs.Laws.Chains.{every-by_all}
use Rattle.tables.specs.Laws.RecordTests.{set-test}
use Rattle.tables.proofs.known.sets_within.Goals as goal

pub returns : goal.returns
returns c =
    every-by_all _ _ _ _ c.all.ensures.ran c.iter.ensures.rest (λ x b q k. search (rules, tests, set-test))
