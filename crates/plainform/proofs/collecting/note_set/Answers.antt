-- `collecting::note_set` meets its contract: a set that was noted stays where it is, another is noted last.
use Rattle.std.proofs.Common.{take, ◌∙◌, sym, arith}
use Rattle.plainform.specs.Laws.Collecting.{note-old, note-new}
use Rattle.plainform.specs.Laws.Sets.{listed-any}
use Rattle.plainform.proofs.collecting.note_set.Goals as goal

pub returns-then-contains : goal.returns-then-contains
returns-then-contains c =
    let a = c.args in
    let own = c.set_of-set in
    rw (← own.ensures) (note-old a.sets.now a.used own.result (omega arith)
    (sym (listed-any own.result (take a.used a.sets.now)) ∙ sym c.contains.ensures.value ∙ c.if-contains.true))

pub returns : goal.returns
returns c =
    let a = c.args in
    let own = c.set_of-set in
    rw (← own.ensures) (note-new a.sets.now a.used own.result (omega arith)
    (sym (listed-any own.result (take a.used a.sets.now)) ∙ sym c.contains.ensures.value ∙ c.if-contains.false))
