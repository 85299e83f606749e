-- `repeating::follow_on` meets its contract: the arcs copied, or entered and noted.
use Rattle.std.proofs.Common.{arith, ◌≤◌, sym, ◌∙◌}
use Rattle.std.proofs.lemmas.Result.{err_from_is_err_and}
use Rattle.index.specs.Laws.Followers.{narrow}
use Rattle.followers.specs.Turns.{BetweenTurns}
use Rattle.followers.specs.Laws.Turns.{place_few, arcs-fit}
use Rattle.followers.specs.Laws.Repeating.{span-order, span-within}
use Rattle.followers.specs.Laws.Repeating.{repeated-on, followed-few, followed-noted, followed-refused}
use Rattle.followers.proofs.repeating.follow_on.Goals as goal
use Rattle.followers.proofs.repeating.follow_on.Goals.{Start}

between : (c : goal.Start)
    → BetweenTurns c.args.search.rules.header c.args.search.rules.nodes.now c.args.search.rules.combinations.now
    c.args.search.index.now c.args.metastates.now c.args.arcs.now c.args.chains.now c.args.spans.now
    c.args.expanded.sizes
between c = c.requires.expandable.between

thin : (c : goal.Start) → c.args.search.rules.header.half ≤ 3
thin c = narrow (between c).searchable.connectable.usable

pub slot_for-slot-requires : goal.slot_for-slot-requires
slot_for-slot-requires c =
    let start = (goal.at.slot_for-slot-requires c).Start in (thin start, (between start).slots)

pub last_state-from-requires : goal.last_state-from-requires
last_state-from-requires c =
    let start = (goal.at.last_state-from-requires c).Start in
    ((between start).searchable.connectable.usable.header-known, place_few c.requires.expandable)

pub repeats-requires : goal.repeats-requires
repeats-requires c = thin (goal.at.repeats-requires c).Start

-- the span is one that was noted
pub repeat-requires : goal.repeat-requires
repeat-requires c =
    let s = c.requires in
    let is = sym c.span_at.ensures ∙ c.in-Some.is in
    record {
      held = s.expandable.between.underway.kept.arc-words;
      order = span-order s _ c.slot_for-slot.ensures.0 is c.repeats.ensures c.if-repeats.true;
      within = span-within s _ c.slot_for-slot.ensures.0 is c.repeats.ensures c.if-repeats.true;
      fit = arcs-fit s.expandable;
    }

pub returns : goal.returns
returns c =
    repeated-on c.requires _ c.slot_for-slot.ensures.0 (sym c.span_at.ensures ∙ c.in-Some.is) c.repeats.ensures
    c.if-repeats.true c.last_state-from.ensures c.repeat.ensures

pub follow-requires : goal.follow-requires
follow-requires c =
    let start = (goal.at.follow-requires c).Start in
    record {
      searchable = (between start).searchable;
      underway = (between start).underway;
      shaped = c.requires.shaped;
    }

pub returns-in_err-next : goal.returns-in_err-next
returns-in_err-next c =
    let p = err_from_is_err_and c.from_residual.result c.from_residual.ensures.1 in
    rw (p.1, p.2) (followed-refused c.requires c.last_state-from.ensures c.follow.ensures c.in_err-next.was)

pub note_span-requires : goal.note_span-requires
note_span-requires c =
    record {
      within = c.slot_for-slot.ensures.0;
      place_few = place_few c.requires.expandable;
      first_few = omega (arith, arcs-fit c.requires.expandable);
      end_few = followed-few c.requires c.last_state-from.ensures c.follow.ensures c.in_ok-next.was;
    }

pub returns-2 : goal.returns-2
returns-2 c =
    followed-noted c.requires c.last_state-from.ensures c.follow.ensures _ c.slot_for-slot.ensures.0 c.in_ok-next.was
    c.note_span.ensures
