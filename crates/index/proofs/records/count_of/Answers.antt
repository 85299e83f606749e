-- `records::count_of` meets its contract: whole records.
use mathlib.Core.Path.{ap}
use Prim.Native.Nat.{ℕ, ◌/◌}
use lib.ListN.{length}
use Rattle.index.proofs.records.count_of.Goals as goal

pub returns : goal.returns
returns c =
    ap (λ (k : ℕ). length c.args.combinations.now / k) c.combination_size.ensures
