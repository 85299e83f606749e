-- `known::roots_known` meets its contract. The loop's invariant: the roots of the phones before `i` are known.
use Prim.Native.Nat.{◌+◌, ◌*◌, ◌≤◌, ◌<◌}
use native.Mathlib.Omega.{arith}
use lib.ListN.{length}
use Rattle.definitions.proofs.Laws.Lists.Tests.{held, failed}
use Rattle.tables.specs.Laws.PhoneTests.{roots-start, roots-inside, roots-more, roots-stop}
use Rattle.tables.specs.Laws.PhoneTests.{roots-end}
use Rattle.std.proofs.lemmas.Bool.{not_from_true}
use Rattle.std.proofs.lemmas.Bool.{not_from_false}
use Rattle.tables.proofs.known.roots_known.Goals as goal
use Rattle.tables.proofs.known.roots_known.Goals.{In-loop-i}

-- the phone at hand is one of the header's, and its roots are there
phone : (c : goal.In-loop-i) → c.loop-i.i < c.args.header.phones
phone c = omega (arith, c.wide-phones.ensures)

inside : (c : goal.In-loop-i)
    → c.loop-i.i * c.wide-states.result + c.wide-states.result
    ≤ length c.args.roots.now
inside c =
    roots-inside _ c.args.roots.now c.requires _ (phone c) c.wide-states.ensures

pub loop-i-init : goal.loop-i-init
loop-i-init c = roots-start _ _ _

pub overflow_mul-from : goal.overflow_mul-from
overflow_mul-from c = omega (arith, inside (goal.at.overflow_mul-from c).In-loop-i)

pub overflow_add-end : goal.overflow_add-end
overflow_add-end c = omega (arith, inside (goal.at.overflow_add-end c).In-loop-i)

pub offset_bounds-roots-from : goal.offset_bounds-roots-from
offset_bounds-roots-from c = omega (arith, inside (goal.at.offset_bounds-roots-from c).In-loop-i, c.well_formed)

pub slice_bounds-roots_given-count : goal.slice_bounds-roots_given-count
slice_bounds-roots_given-count c = omega arith

pub slice_bounds-roots_given-start : goal.slice_bounds-roots_given-start
slice_bounds-roots_given-start c = omega arith

pub slice_bounds-roots_given-end : goal.slice_bounds-roots_given-end
slice_bounds-roots_given-end c = omega (arith, inside (goal.at.slice_bounds-roots_given-end c).In-loop-i)

pub returns-then-not-roots_given : goal.returns-then-not-roots_given
returns-then-not-roots_given c =
    roots-stop _ _ c.requires _ (phone (goal.at.returns-then-not-roots_given c).In-loop-i) c.wide-states.ensures _
    c.loop-i.invariant c.word_at.ensures
    (failed c.roots_given.ensures (not_from_false _ c.if-not-roots_given.true))

pub loop-i-preserved : goal.loop-i-preserved
loop-i-preserved c =
    roots-more _ _ c.requires _ (phone (goal.at.loop-i-preserved c).In-loop-i) c.wide-states.ensures _
    c.loop-i.invariant c.word_at.ensures
    (held c.roots_given.ensures (not_from_true _ c.if-not-roots_given.false))

pub returns : goal.returns
returns c =
    roots-end _ _ _ c.loop-i.invariant (omega (arith, c.wide-phones.ensures))
