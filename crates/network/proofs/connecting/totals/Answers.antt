-- `connecting::totals` meets its contract.
use mathlib.Core.Path.{refl}
use Rattle.network.proofs.connecting.totals.Goals as goal

pub returns : goal.returns
returns c = refl
