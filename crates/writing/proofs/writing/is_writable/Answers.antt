-- `writing::is_writable` meets its contract: at most five numbers, and each of them is small.
use Rattle.std.proofs.Common.{rules, ◌∙◌}
use Rattle.std.proofs.lemmas.Bool.{lt-leb}
use borrow.Author.Tests.{tests}
use Rattle.lines.specs.Laws.Chains.{every-by_all}
use Rattle.writing.specs.Laws.Rows.{is_small, writable-many, writable-few}
use Rattle.writing.proofs.writing.is_writable.Goals as goal

pub returns-then-row-le5 : goal.returns-then-row-le5
returns-then-row-le5 c =
    every-by_all is_small _ _ c.all.result c.all.ensures.ran (cc) (λ x b q k. search (rules, tests))
    ∙ writable-few c.args.row c.if-row-le5.true

pub returns-else-row-le5 : goal.returns-else-row-le5
returns-else-row-le5 c = rw (lt-leb _ _ c.if-row-le5.false) (writable-many c.args.row c.if-row-le5.false)
