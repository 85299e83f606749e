-- `repeating::copy_span` meets its contract. The loop's invariant: `i` copies were appended.
use Rattle.std.proofs.Common.{arith, ap, ◌∙◌, ◌+◌, ◌*◌}
use Rattle.definitions.specs.Arcs.{Arc, arc_size, arc_words}
use Rattle.lines.specs.Putting.{put_at}
use Rattle.followers.specs.Spans.{leaving_from}
use Rattle.followers.specs.Laws.Copying.{copied_none, copied-sized, copied_more, copied_all}
use Rattle.followers.proofs.repeating.copy_span.Goals as goal

pub loop-i-init : goal.loop-i-init
loop-i-init c = copied_none c.requires _

pub arc_at-arc-requires : goal.arc_at-arc-requires
arc_at-arc-requires c =
    let s = c.requires in
    omega (arith, copied-sized s _ c.loop-i.invariant, c.loop-i-test.true, s.within, s.room)

pub put_arc-requires : goal.put_arc-requires
put_arc-requires c =
    let s = c.requires in
    omega (arith, copied-sized s _ c.loop-i.invariant, c.loop-i-test.true, s.room)

pub loop-i-preserved : goal.loop-i-preserved
unfolding leaving_from
loop-i-preserved c =
    let a = c.args in
    copied_more c.requires _ c.loop-i.invariant c.loop-i-test.true
    (c.put_arc.ensures
    ∙ ap (λ (x : Arc). put_at (arc_size * (a.count + c.loop-i.i)) (arc_words (leaving_from a.from x)) c.loop-i.arcs)
    c.arc_at-arc.ensures)

pub shape_of-arcs : goal.shape_of-arcs
shape_of-arcs c = copied-sized c.requires _ c.loop-i.invariant

pub returns : goal.returns
returns c = copied_all c.requires _ c.loop-i.invariant c.loop-i-test.false
