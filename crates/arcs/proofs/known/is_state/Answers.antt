-- `known::is_state` meets its contract.
use Rattle.definitions.specs.NetworkText.{is_state}
use Rattle.arcs.proofs.known.is_state.Goals as goal

pub returns : goal.returns
unfolding is_state
returns c = rw (c.wide.ensures, c.wide-2.ensures, c.wide-3.ensures)
