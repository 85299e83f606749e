-- `boundaries::put_boundaries` meets its contract: the row of each phone is for its line.
use Rattle.std.proofs.Common.{rules}
use Rattle.booktext.specs.Laws.BoundaryLines.{boundaries}
use Rattle.booktext.specs.Laws.Putting.{given-countable, given-put}
use Rattle.booktext.proofs.boundaries.put_boundaries.Goals as goal

pub put_rows-requires-clause-countable : goal.put_rows-requires-clause-countable
put_rows-requires-clause-countable c =
    given-countable (boundaries c.args.plains.now) (λ i row h own. search rules) c.args.count c.requires.1

pub returns : goal.returns
returns c = given-put (boundaries c.args.plains.now) (λ i row h own. search rules) c.put_rows.ensures
