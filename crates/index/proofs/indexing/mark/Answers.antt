-- `indexing::mark` meets its contract: the word keeps its places and has one more.
use Rattle.index.specs.Laws.Filling.{place-beyond, place_set}
use Rattle.index.proofs.indexing.mark.Goals as goal

pub returns-else-at-index : goal.returns-else-at-index
returns-else-at-index c = place-beyond _ _ _ c.if-at-index.false

pub returns-then-at-index : goal.returns-then-at-index
returns-then-at-index c =
    let a = c.args in
    place_set a.index.now a.at a.place c.alone.result c.requires
    c.if-at-index.true
    c.alone.ensures
