-- `linking::link` meets its contract: the two words that change.
use mathlib.Core.Path.{ap}
use Prim.Native.Nat.{ℕ, ◌+◌}
use lib.ListN.{set}
use Rattle.definitions.specs.Lists.{◌!◌}
use Rattle.growing.specs.Chains.{heads_in}
use Rattle.growing.proofs.linking.link.Goals as goal

pub returns : goal.returns
returns c =
    let a = c.args in
    let chains = a.chains.now in
    ap (λ (head : ℕ). set (set chains (heads_in chains + a.place) (chains ! head)) head (a.place + 1))
    c.head_of-head.ensures.0
