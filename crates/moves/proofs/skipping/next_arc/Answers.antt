-- `skipping::next_arc` meets its contract. The loop's invariant: along the arcs of the state before `at` nothing leads
-- on.
use Rattle.std.proofs.Common.{sym, ◌∙◌}
use Rattle.moves.specs.Laws.Skipping.{passing-more, skipped-past}
use Rattle.moves.proofs.skipping.next_arc.Goals as goal

pub returns-then-arcs-at : goal.returns-then-arcs-at
returns-then-arcs-at c =
    skipped-past c.requires c.args.wanted c.loop-at.invariant c.loop-at-test.true c.if-arcs-at.true

pub loop-at-preserved : goal.loop-at-preserved
loop-at-preserved c =
    passing-more c.requires c.args.wanted c.loop-at.invariant c.loop-at-test.true c.if-arcs-at.false
    (sym c.leads_along.ensures ∙ c.if-leads_along.false)
