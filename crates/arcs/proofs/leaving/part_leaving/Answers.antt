-- `leaving::part_leaving` meets its contract. The part's first arc and its end are found by two searches.
use Rattle.std.proofs.Common.{ap, ◌∙◌, arith}
use Rattle.std.specs.Prelude.{Err}
use Rattle.definitions.proofs.Laws.Lists.Tests.{held, failed}
use Rattle.arcs.specs.Laws.KnownArcs.{known-taken, known-order}
use Rattle.arcs.specs.Laws.Leaving.{standing-foreign, standing-beyond, Searched, searched, part-order}
use Rattle.arcs.specs.Laws.Leaving.{part_end, standing-part}
use Rattle.std.proofs.lemmas.Bool.{not_from_true, not_from_false}
use Rattle.arcs.proofs.leaving.part_leaving.Goals as goal
use Rattle.arcs.proofs.leaving.part_leaving.Goals.{After-arcs_below-end}

pub returns-then-not-network_known : goal.returns-then-not-network_known
returns-then-not-network_known c =
    ap Err c.into.ensures
    ∙ standing-foreign _ _ _ (failed c.network_known.ensures (not_from_false _ c.if-not-network_known.true))

pub returns-then-not-is_state : goal.returns-then-not-is_state
returns-then-not-is_state c =
    ap Err c.into-then-not-is_state.ensures
    ∙ standing-beyond _ _ _ (held c.network_known.ensures (not_from_true _ c.if-not-network_known.false))
    (failed c.is_state.ensures (not_from_false _ c.if-not-is_state.true))

pub slice_bounds-used-end : goal.slice_bounds-used-end
slice_bounds-used-end c =
    known-taken _ _ c.wide.ensures
    (held c.network_known.ensures (not_from_true _ c.if-not-network_known.false))

pub arcs_below-first-requires : goal.arcs_below-first-requires
arcs_below-first-requires c =
    known-order _ _ c.wide.ensures
    (held c.network_known.ensures (not_from_true _ c.if-not-network_known.false))

pub arcs_below-end-requires : goal.arcs_below-end-requires
arcs_below-end-requires c =
    known-order _ _ c.wide.ensures
    (held c.network_known.ensures (not_from_true _ c.if-not-network_known.false))

-- both searches done
parted : (c : goal.After-arcs_below-end) → Searched c.args.counts c.args.arcs.now
    c.args.state c.arcs_below-first.result c.arcs_below-end.result
parted c =
    searched _ _ (held c.network_known.ensures (not_from_true _ c.if-not-network_known.false))
    (held c.is_state.ensures (not_from_true _ c.if-not-is_state.false))
    c.wide.ensures c.wide-2.ensures c.wide-3.ensures
    c.arcs_below-first.ensures c.arcs_below-end.ensures

pub overflow_mul-result : goal.overflow_mul-result
overflow_mul-result c =
    let f = parted (goal.at.overflow_mul-result c).After-arcs_below-end in
    omega (arith, part-order f, part_end f, c.well_formed.1.0.0)

pub overflow_sub-result : goal.overflow_sub-result
overflow_sub-result c = part-order (parted (goal.at.overflow_sub-result c).After-arcs_below-end)

pub overflow_mul-result-2 : goal.overflow_mul-result-2
overflow_mul-result-2 c =
    let f = parted (goal.at.overflow_mul-result-2 c).After-arcs_below-end in
    omega (arith, part-order f, part_end f, c.well_formed.1.0.0)

pub returns : goal.returns
returns c = standing-part (parted (goal.at.returns c).After-arcs_below-end)
