-- `judging::comes_next` meets its contract, by whether the line is of the last word.
use Rattle.words.specs.Laws.Judging.{next-same, next-far, next-first}
use Rattle.words.proofs.judging.comes_next.Goals as goal

pub returns-then-line-last : goal.returns-then-line-last
returns-then-line-last c = next-same _ _ c.if-line-last.true c.wide.ensures c.wide-then-line-last.ensures

pub returns-then-wide : goal.returns-then-wide
returns-then-wide c =
    next-first _ _ c.if-line-last.false c.wide-else-line-last.ensures c.wide-else-line-last-2.ensures c.if-wide.true

pub returns-else-wide : goal.returns-else-wide
returns-else-wide c =
    next-far _ _ c.if-line-last.false c.wide-else-line-last.ensures c.wide-else-line-last-2.ensures c.if-wide.false
