-- `known::arcs_known` meets its contract. The loop's invariant: the arcs before `i` are known and in order, and
-- `last` is the last source.
use Rattle.definitions.proofs.Laws.Lists.Tests.{held, failed}
use Rattle.arcs.specs.Laws.KnownArcs.{tested-start, tested-more, tested-foreign}
use Rattle.arcs.specs.Laws.KnownArcs.{tested-descends, tested-end}
use Rattle.std.proofs.Common.{rules}
use Rattle.std.proofs.lemmas.Bool.{not_from_true, not_from_false}
use Rattle.arcs.proofs.known.arcs_known.Goals as goal
use Rattle.arcs.proofs.known.arcs_known.Goals.{then-not-arc_known-via-then-not-arc_known, then-not-arc_known-via-else-not-arc_known+then-arc-last}

pub loop-i-init : goal.loop-i-init
loop-i-init c = tested-start _ _ _

pub returns-then-not-arc_known : goal.returns-then-not-arc_known
returns-then-not-arc_known c =
    elim c.then-not-arc_known.branch [
      | then-not-arc_known-via-then-not-arc_known w ↦
          tested-foreign c.loop-i.invariant c.loop-i-test.true c.arc_at-arc.ensures
          (failed c.arc_known.ensures (not_from_false _ w.if-not-arc_known.true))
      | then-not-arc_known-via-else-not-arc_known+then-arc-last w ↦
          tested-descends c.loop-i.invariant c.loop-i-test.true c.arc_at-arc.ensures w.if-arc-last.true
    ]

pub loop-i-preserved : goal.loop-i-preserved
loop-i-preserved c =
    tested-more c.loop-i.invariant c.loop-i-test.true c.arc_at-arc.ensures
    (held c.arc_known.ensures (not_from_true _ c.if-not-arc_known.false)) c.if-arc-last.false

pub returns : goal.returns
returns c = tested-end c.loop-i.invariant (search rules)
