-- `State::no_lines` meets its contract by computation.
use mathlib.Core.Path.{refl}
use Rattle.definitions.specs.Lists.{concat_map}
use Rattle.definitions.specs.NetworkText.{counts_of, arcs_of}
use Rattle.nettext.specs.States.{last_source, state_of}
use Rattle.nettext.proofs.State.no_lines.Goals as goal

pub returns : goal.returns
unfolding state_of last_source counts_of arcs_of concat_map
returns c = refl
