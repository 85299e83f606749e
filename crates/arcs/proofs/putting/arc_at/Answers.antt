-- `putting::arc_at` meets its contract.
use Rattle.std.proofs.Common.{sym}
use Rattle.arcs.specs.Laws.KnownArcs.{arc-words-at}
use Rattle.arcs.proofs.putting.arc_at.Goals as goal

pub returns : goal.returns
returns c = sym (arc-words-at c.args.arcs.now c.args.place)
