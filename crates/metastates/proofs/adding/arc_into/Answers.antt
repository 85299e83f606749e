-- `adding::arc_into` meets its contract: the words of a combination give the arc's model and phone.
use Rattle.std.proofs.Common.{arith}
use Rattle.index.specs.Laws.RecordWords.{has-phone, has-leaf}
use Rattle.metastates.specs.Laws.States.{states-few}
use Rattle.metastates.specs.Laws.ArcInto.{first-state, into-arc}
use Rattle.metastates.proofs.adding.arc_into.Goals as goal

pub overflow_cast-result : goal.overflow_cast-result
overflow_cast-result c =
    let placed = c.requires in
    let states =
    states-few c.args.rules.header placed.connectable.usable.header-known c.wide.ensures c.args.place
    (omega (arith, placed.few)) in
    record { fits = omega (arith, states) }

pub model_of-model-requires : goal.model_of-model-requires
model_of-model-requires c =
    let a = c.args in
    let placed = c.requires in
    has-leaf a.rules.header a.rules.combinations.now placed.connectable.usable a.number placed.listed
    a.rules.nodes.now placed.connectable.modelled 0 (first-state placed)

pub phone_of-phone-requires : goal.phone_of-phone-requires
phone_of-phone-requires c =
    let a = c.args in
    let placed = c.requires in
    has-phone a.rules.header a.rules.combinations.now placed.connectable.usable a.number placed.listed

pub returns : goal.returns
returns c = into-arc c.requires c.args.from c.wide.ensures c.model_of-model.ensures c.phone_of-phone.ensures
