-- `starting::fill_starts` meets its contract. The loop's invariant: the places of the states before `state` are filled.
use Rattle.arcs.specs.Laws.Leaving.{below_all}
use Rattle.arcs.specs.Laws.Starting.{filling-more}
use borrow.Author.Rules.{rules}
use Rattle.arcs.proofs.starting.fill_starts.Goals as goal

pub overflow_cast-starts : goal.overflow_cast-starts
overflow_cast-starts c =
    let most = below_all c.args.arcs.now c.loop-state.state in
    let few = c.requires.1 in
    let is = c.counted_on-at.ensures in
    search rules

pub loop-state-preserved : goal.loop-state-preserved
loop-state-preserved c =
    filling-more c.loop-state.invariant c.loop-state-test.true c.counted_on-at.ensures
