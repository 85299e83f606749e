-- `titles::title_of` meets its contract: the bytes before the line feed are cut out.
use Rattle.showing.specs.Laws.Titles.{title-cut}
use Rattle.showing.proofs.titles.title_of.Goals as goal

pub returns : goal.returns
returns c = title-cut _ _ c.place.ensures.found
