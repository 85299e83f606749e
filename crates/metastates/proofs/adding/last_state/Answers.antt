-- `adding::last_state` meets its contract: the states are few, so that their sum is a word.
use Rattle.std.proofs.Common.{arith, ◌+◌}
use Rattle.metastates.specs.Laws.States.{states-few, last-state}
use Rattle.metastates.proofs.adding.last_state.Goals as goal

pub overflow_cast-result : goal.overflow_cast-result
overflow_cast-result c =
    let (known, below) = c.requires in
    let states = states-few c.args.header known c.wide.ensures (c.args.place + 1) (omega (arith, below)) in
    record { fits = omega (arith, states) }

pub returns : goal.returns
returns c =
    let (known, below) = c.requires in
    last-state c.args.header known c.wide.ensures c.args.place
