-- `Arcs::with_arc` meets its contract.
use Rattle.turns.specs.Laws.OwnArcs.{arc-stored}
use borrow.Author.Rules.{rules}
use Rattle.turns.proofs.Arcs.with_arc.Goals as goal

pub returns : goal.returns
returns c arcs are =
    arc-stored c.args.self arcs _ _ _ (search rules) c.requires.few c.put_arc.ensures are
