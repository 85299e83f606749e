-- `forcing::root_in_force` meets its contract: the place tells the phone and the state.
use native.Mathlib.Omega.{arith}
use Rattle.tables.specs.Laws.Forcing.{some_state, phone_low, state_low, force-here}
use Rattle.tables.proofs.forcing.root_in_force.Goals as goal

pub nonzero_div-place : goal.nonzero_div-place
nonzero_div-place c = some_state _ _ _ c.requires.0

pub overflow_add-place : goal.overflow_add-place
overflow_add-place c =
    record { fits = omega (arith, phone_low _ _ _ c.requires.0 _ c.requires.1) }

pub nonzero_rem-place : goal.nonzero_rem-place
nonzero_rem-place c = some_state _ _ _ c.requires.0

pub overflow_add-place-2 : goal.overflow_add-place-2
overflow_add-place-2 c =
    record { fits = omega (arith, state_low _ _ _ c.requires.0 c.args.place) }

pub returns : goal.returns
returns c =
    force-here _ _ _ c.requires.0 _ c.requires.1 c.tree_phone-phone.ensures c.root_of.ensures
