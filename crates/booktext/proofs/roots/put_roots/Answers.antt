-- `roots::put_roots` meets its contract: the row of each root is for its line.
use Rattle.std.proofs.Common.{rules}
use Rattle.booktext.specs.Laws.RootLines.{roots_written}
use Rattle.booktext.specs.Laws.Putting.{given-countable, given-put}
use Rattle.booktext.proofs.roots.put_roots.Goals as goal

pub put_rows-requires-clause-countable : goal.put_rows-requires-clause-countable
put_rows-requires-clause-countable c =
    let a = c.args in
    given-countable (roots_written a.states a.roots.now) (λ i row h own. search rules) a.count c.requires.2

pub returns : goal.returns
returns c =
    let a = c.args in
    given-put (roots_written a.states a.roots.now) (λ i row h own. search rules) c.put_rows.ensures
