-- The head of a key is one of the heads.
use Rattle.std.specs.Prelude.{ℕ, ◌-◌, ◌<◌}
use Rattle.std.proofs.Common.{arith}
use Rattle.std.proofs.lemmas.Nat.{and_le_r}
use Rattle.growing.specs.Chains.{head_of}

pub head-below : {heads : ℕ} (key : ℕ) → 0 < heads → head_of heads key < heads
unfolding head_of
head-below {heads} key h = omega (arith, and_le_r key (heads - 1))
