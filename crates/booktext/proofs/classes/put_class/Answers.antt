-- `classes::put_class` meets its contract: the row of each phone is for its line.
use Rattle.std.proofs.Common.{rules}
use Rattle.booktext.specs.Laws.ClassLines.{members}
use Rattle.booktext.specs.Laws.Putting.{given-countable, given-put}
use Rattle.booktext.proofs.classes.put_class.Goals as goal

pub put_rows-requires-clause-countable : goal.put_rows-requires-clause-countable
put_rows-requires-clause-countable c =
    let a = c.args in
    given-countable (members a.class a.set c.wide.result a.phones c.wide.ensures) (λ i row h own. search rules)
    a.count c.requires

pub returns : goal.returns
returns c =
    let a = c.args in
    given-put (members a.class a.set c.wide.result a.phones c.wide.ensures) (λ i row h own. search rules)
    c.put_rows.ensures
