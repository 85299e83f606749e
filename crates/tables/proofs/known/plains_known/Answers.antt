-- `known::plains_known` meets its contract.
use Rattle.std.proofs.Common.{rules, eq-eqb}
use borrow.Author.Tests.{tests}
use Rattle.definitions.specs.ForeignTables.{plains_known}
use Rattle.lines.specs.Laws.Chains.{every-by_all}
use Rattle.tables.proofs.known.plains_known.Goals as goal

pub returns-then-word_at-eq0 : goal.returns-then-word_at-eq0
unfolding plains_known
returns-then-word_at-eq0 c =
    rw (← c.word_at.ensures, eq-eqb _ 0 c.if-word_at-eq0.true)
    (every-by_all _ _ _ _ c.all.ensures.ran c.iter.ensures.rest (λ x b q k. search (rules, tests)))

pub returns-else-word_at-eq0 : goal.returns-else-word_at-eq0
unfolding plains_known
returns-else-word_at-eq0 c = search rules
