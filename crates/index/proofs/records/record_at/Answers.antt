-- `records::record_at` meets its contract: the part that is cut out.
use mathlib.Core.Path.{◌≡◌, refl, ap}
use Prim.Native.Nat.{ℕ, ◌+◌, ◌-◌, ◌*◌}
use native.Mathlib.Omega.{arith}
use lib.ListN.{take, drop}
use Rattle.lines.specs.Laws.Putting.{part_length}
use Rattle.index.proofs.records.record_at.Goals as goal

pub returns : goal.returns
returns c =
    let a = c.args in
    let from : ℕ = a.size * a.place in
    let size : from + a.size - from ≡ a.size = omega arith in
    record {
      is = ap (λ (k : ℕ). take k (drop from a.words.now)) size;
      sized = part_length a.words.now from a.size refl c.requires;
    }
