-- `titles::end_of` meets its contract: the next '=' is looked for below the line feed.
use Rattle.showing.specs.Laws.Titles.{end-found}
use Rattle.showing.proofs.titles.end_of.Goals as goal

pub returns-clause-found : goal.returns-clause-found
returns-clause-found c = end-found _ _ c.place-line.ensures.found _ c.place.ensures.found
