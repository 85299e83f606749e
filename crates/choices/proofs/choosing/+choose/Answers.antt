-- `choosing::choose` meets its contract: each turn adds the combinations of the next leaf that fits, and stops where the
-- call for the further trees stops.
use Rattle.std.proofs.Common.{◌≡◌, length, arith, rules}
use Rattle.std.proofs.lemmas.Result.{err_from_is_err_and}
use Rattle.definitions.proofs.Laws.Matrices.Sizes.{columns-held}
use Rattle.choices.specs.Laws.Choosing.{choosing-last, given-none, given-fit, choosing-holding, choosing-asked, choosing-over}
use Rattle.choices.specs.Laws.Choosing.{choosing-again, choosing-end}
use Rattle.choices.specs.Laws.LeafLists.{leaves-length}
use Rattle.choices.proofs.choosing.+choose.Goals as goal

pub returns-then-trees-eq0 : goal.returns-then-trees-eq0
returns-then-trees-eq0 t c =
    let (asked, holding) = c.requires in
    rw (choosing-last _ _ _ asked.chosen c.if-trees-eq0.true) c.add_choice.ensures

pub loop-place-init : goal.loop-place-init
loop-place-init t c =
    let (asked, holding) = c.requires in
    let three : length c.args.choice.leaves ≡ 3 = search rules in
    let held = columns-held c.args.half (omega (arith, asked.chosen.narrow)) in
    given-none (record { asked = asked; three = three; held = held; some = c.if-trees-eq0.false }) holding

pub next_fit-requires : goal.next_fit-requires
next_fit-requires t c =
    let inv = c.loop-place.invariant in
    let asked = inv.begins.asked in
    (asked.chosen.narrow, asked.first_is, inv.within, asked.chosen.matrix)

pub with_leaf-next-requires : goal.with_leaf-next-requires
with_leaf-next-requires t c =
    let inv = given-fit c.loop-place.invariant c.in-Some.ensures.first in
    let asked = inv.begins.asked in
    let inside = c.in-Some.ensures.inside in
    record {
      chosen = asked.chosen;
      is = asked.first_is;
      more = omega (arith, asked.few, inv.begins.some);
      inside = inside;
      fits = inv.found inside;
    }

pub choose-requires : goal.choose-requires
choose-requires t c =
    let inv = given-fit c.loop-place.invariant c.in-Some.ensures.first in (
      omega (arith, c.decreases, inv.begins.some),
      (choosing-asked inv c.in-Some.ensures.inside c.with_leaf-next.ensures, choosing-holding inv),
    )

pub returns-in_err-total : goal.returns-in_err-total
returns-in_err-total t c =
    let inv = given-fit c.loop-place.invariant c.in-Some.ensures.first in
    let p = err_from_is_err_and c.from_residual.result c.from_residual.ensures.1 in
    rw (p.1, p.2) (choosing-over inv c.in-Some.ensures.inside c.with_leaf-next.ensures c.choose.ensures c.in_err-total.was)

pub overflow_add-from : goal.overflow_add-from
overflow_add-from t c =
    let inside = rw leaves-length at c.in-Some.ensures.inside in
    record { fits = omega (arith, inside, c.well_formed) }

pub loop-place-smaller : goal.loop-place-smaller
loop-place-smaller t c =
    let inside = rw leaves-length at c.in-Some.ensures.inside in
    omega (arith, inside, c.in-Some.ensures.first.none.after)

pub loop-place-preserved : goal.loop-place-preserved
loop-place-preserved t c =
    let inv = given-fit c.loop-place.invariant c.in-Some.ensures.first in
    choosing-again inv c.in-Some.ensures.inside c.with_leaf-next.ensures c.choose.ensures c.in_ok-total.was

pub returns : goal.returns
returns t c =
    choosing-end (given-fit c.loop-place.invariant c.in_default.ensures.first) (omega arith)
