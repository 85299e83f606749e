-- `leaving::leaving` meets its contract: the part of the lent arcs where the arcs that leave the state stand.
use Rattle.std.proofs.Common.{sym, ◌∙◌, arith, ◌+◌, ◌≤◌, length}
use Rattle.definitions.specs.Leaving.{leaving}
use Rattle.arcs.specs.Laws.Leaving.{handed-part, handed-nothing, part-within}
use Rattle.arcs.proofs.leaving.leaving.Goals as goal
use Rattle.arcs.proofs.leaving.leaving.Goals.{In-Ok}

-- the part that was found lies within the lent arcs
found : (c : goal.In-Ok) → c.in-Ok.span.start + c.in-Ok.span.length ≤ length c.args.arcs.now
found c = part-within _ _ _ (sym c.in-Ok.is ∙ c.part_leaving.ensures)

pub overflow_add-result : goal.overflow_add-result
overflow_add-result c = omega (arith, found (goal.at.overflow_add-result c).In-Ok, c.well_formed.1.0.1)

pub offset_bounds-arcs-span : goal.offset_bounds-arcs-span
offset_bounds-arcs-span c = omega (arith, found (goal.at.offset_bounds-arcs-span c).In-Ok, c.well_formed.1.0.0)

pub slice_bounds-result-end : goal.slice_bounds-result-end
slice_bounds-result-end c = found (goal.at.slice_bounds-result-end c).In-Ok

pub returns-in-Ok : goal.returns-in-Ok
returns-in-Ok c =
    let all =
    handed-part c.args.arcs.now c.args.arcs.ref_ptr (leaving c.args.counts c.args.arcs.now c.args.state)
    (sym c.in-Ok.is ∙ c.part_leaving.ensures) in
    record { fault = all.0; line = all.1.0; address = all.1.1.0; part = all.1.1.1 }

pub returns-in-Err : goal.returns-in-Err
returns-in-Err c =
    let all =
    handed-nothing c.args.arcs.now c.args.arcs.ref_ptr (leaving c.args.counts c.args.arcs.now c.args.state)
    (sym c.in-Err.is ∙ c.part_leaving.ensures) in
    record { fault = c.into.ensures ∙ all.0; line = all.1.0; address = all.1.1.0; part = all.1.1.1 }
