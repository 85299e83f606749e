-- `nodes::put_nodes` meets its contract: the row of each node is for its line.
use Rattle.std.proofs.Common.{rules}
use Rattle.booktext.specs.Laws.NodeLines.{nodes_written}
use Rattle.booktext.specs.Laws.Putting.{given-countable, given-put}
use Rattle.booktext.proofs.nodes.put_nodes.Goals as goal

pub put_rows-requires-clause-countable : goal.put_rows-requires-clause-countable
put_rows-requires-clause-countable c =
    let a = c.args in
    given-countable (nodes_written c.wide.result a.nodes a.words.now c.wide.ensures) (λ i row h own. search rules)
    a.count c.requires

pub returns : goal.returns
returns c =
    let a = c.args in
    given-put (nodes_written c.wide.result a.nodes a.words.now c.wide.ensures) (λ i row h own. search rules)
    c.put_rows.ensures
