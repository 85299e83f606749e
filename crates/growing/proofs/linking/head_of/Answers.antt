-- `linking::head_of` meets its contract: what is cut is at most one less than the number of heads.
use mathlib.Core.Path.{refl}
use Prim.Native.Nat.{◌-◌}
use native.Mathlib.Omega.{arith}
use lib.Bits.{and_le_r}
use Rattle.growing.specs.Chains.{head_of}
use Rattle.growing.proofs.linking.head_of.Goals as goal

pub returns : goal.returns
unfolding head_of
returns c = (refl, omega (arith, and_le_r c.args.key (c.args.heads - 1), c.requires))
