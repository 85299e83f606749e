-- `expanding::expand` meets its contract.
use Rattle.std.proofs.Common.{arith}
use Rattle.std.proofs.lemmas.Result.{err_from_is_err_and}
use Rattle.index.specs.Laws.Followers.{narrow}
use Rattle.followers.specs.Laws.Turns.{place-within, expand-placed, arcs-fit}
use Rattle.turns.specs.Laws.Expanding.{new-few, turn-stops, next-onward, turn-goes}
use Rattle.turns.proofs.expanding.expand.Goals as goal

pub metastate_at-q-requires : goal.metastate_at-q-requires
metastate_at-q-requires c =
    let s = c.requires in
    (narrow s.between.searchable.connectable.usable, place-within s)

pub plain_arcs-requires : goal.plain_arcs-requires
plain_arcs-requires c = expand-placed c.requires c.metastate_at-q.ensures

pub add_arcs-requires : goal.add_arcs-requires
add_arcs-requires c =
    (arcs-fit c.requires, new-few c.requires c.metastate_at-q.ensures c.plain_arcs.ensures)

pub returns-in_err-sizes : goal.returns-in_err-sizes
returns-in_err-sizes c =
    let p = err_from_is_err_and c.from_residual.result c.from_residual.ensures.1 in
    rw (p.1, p.2)
    (turn-stops c.requires c.metastate_at-q.ensures c.plain_arcs.ensures c.add_arcs.ensures c.in_err-sizes.was)

pub overflow_mul-wide : goal.overflow_mul-wide
overflow_mul-wide c =
    omega (arith, c.wide.ensures, narrow c.requires.between.searchable.connectable.usable)

pub follow_on-requires : goal.follow_on-requires
follow_on-requires c =
    next-onward c.requires c.metastate_at-q.ensures c.plain_arcs.ensures c.add_arcs.ensures c.in_ok-sizes.was
    c.wide.ensures c.all_phones.ensures c.shift-shifted.ensures

pub returns : goal.returns
returns c =
    turn-goes c.requires c.metastate_at-q.ensures c.plain_arcs.ensures c.add_arcs.ensures c.in_ok-sizes.was
    c.wide.ensures c.all_phones.ensures c.shift-shifted.ensures c.follow_on.ensures
