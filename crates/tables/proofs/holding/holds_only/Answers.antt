-- `holding::holds_only` meets its contract.
use Rattle.std.proofs.Common.{rules, arith, ◌∙◌, le-leb, length-drop}
use Rattle.std.proofs.lemmas.List.{take_all}
use borrow.Author.Tests.{tests}
use Rattle.lines.specs.Laws.Chains.{every-by_all}
use Rattle.tables.proofs.holding.holds_only.Goals as goal

pub returns-then-count-words : goal.returns-then-count-words
returns-then-count-words g c =
    let rest = c.iter.ensures.rest ∙ take_all _ _ (omega (arith, length-drop c.args.count c.args.words.now)) in
    rw (le-leb _ _ c.if-count-words.true)
    (every-by_all _ _ _ _ c.all.ensures.ran rest (λ x b q k. search (rules, tests)))
