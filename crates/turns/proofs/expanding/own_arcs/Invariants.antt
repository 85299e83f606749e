-- `expanding::own_arcs` meets its contract. The loop's invariant: the arcs up to the one into `state`.
use Rattle.index.specs.RecordWords.{model_word}
use Rattle.turns.specs.Laws.OwnArcs.{OwnArcs}
use Rattle.turns.proofs.expanding.own_arcs.Given as goal

abbrev pub invariant-loop-state : goal.invariant-loop-state
invariant-loop-state l =
    OwnArcs (model_word l.header.half l.rules.combinations.now l.number l.rules.nodes.now) l.first l.states l.state l.new
