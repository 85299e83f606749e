-- `titles::text_of` meets its contract: where there is a line feed, what stands below it is cut out.
use Rattle.showing.specs.Laws.Titles.{text-cut, text-none}
use Rattle.showing.proofs.titles.text_of.Goals as goal

pub returns-then-line-end : goal.returns-then-line-end
returns-then-line-end c =
    text-cut _ _ c.place-line.ensures.found _ c.end_of-end.ensures.found c.if-line-end.true

pub returns : goal.returns
returns c = text-none _ _ c.place-line.ensures.found _ c.end_of-end.ensures.found c.if-line-end.false
