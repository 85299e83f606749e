-- `expanding::plain_arcs` meets its contract.
use Rattle.std.proofs.Common.{rules, arith, ◌∙◌}
use Rattle.index.specs.Laws.RecordWords.{has-phone}
use Rattle.metastates.specs.Outcomes.{metastate_of}
use Rattle.turns.specs.Laws.PlainArcs.{plain_other, plain-inside, plain-final, own-count-few}
use Rattle.turns.proofs.expanding.plain_arcs.Goals as goal
use Rattle.turns.proofs.expanding.plain_arcs.Goals.{else-phone_of-eq1-via-then-phone_of-eq1+else-ends_here}
use Rattle.turns.proofs.expanding.plain_arcs.Goals.{else-phone_of-eq1-via-else-phone_of-eq1}

pub phone_of-requires : goal.phone_of-requires
phone_of-requires c =
    let placed = c.requires in
    has-phone _ _ placed.connectable.usable _ placed.listed

pub last_state-requires : goal.last_state-requires
last_state-requires c =
    let placed = c.requires in
    (placed.connectable.usable.header-known, placed.few)

pub with_arc-requires : goal.with_arc-requires
with_arc-requires c =
    record {
      few = own-count-few (metastate_of c.args.rules.header.half c.args.q) c.requires c.own_arcs-own.ensures;
      from_word = search rules;
      to_word = omega arith;
    }

pub returns-then-ends_here : goal.returns-then-ends_here
returns-then-ends_here c =
    plain-final (metastate_of c.args.rules.header.half c.args.q) c.requires c.phone_of.ensures c.if-phone_of-eq1.true
    c.ends_here.ensures c.if-ends_here.true (c.wide.ensures ∙ c.last_state.ensures) c.own_arcs-own.ensures
    c.with_arc.ensures

-- another phone than silence, or silence that may not stand to the right
pub returns-else-phone_of-eq1 : goal.returns-else-phone_of-eq1
returns-else-phone_of-eq1 c =
    let x = metastate_of c.args.rules.header.half c.args.q in
    elim c.else-phone_of-eq1.branch [
      | else-phone_of-eq1-via-then-phone_of-eq1+else-ends_here w ↦
          plain-inside x c.requires w.ends_here.ensures w.if-ends_here.false c.own_arcs-own.ensures
      | else-phone_of-eq1-via-else-phone_of-eq1 w ↦
          plain_other x c.requires c.phone_of.ensures w.if-phone_of-eq1.false c.own_arcs-own.ensures
    ]
