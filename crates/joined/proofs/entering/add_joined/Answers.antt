-- `entering::add_joined` meets its contract.
use mathlib.Core.Path.{ap, ◌∙◌}
use Prim.Native.Nat.{ℕ}
use Rattle.growing.specs.Chains.{heads_in, linked_to}
use Rattle.joined.proofs.entering.add_joined.Goals as goal

pub returns : goal.returns
returns c =
    let a = c.args in
    record {
      put = c.put_joined.ensures;
      linked =
          c.link.ensures
          ∙ ap (λ (k : ℕ). linked_to (heads_in a.chains.now) a.chains.now a.place k)
          c.key_of.ensures;
    }
