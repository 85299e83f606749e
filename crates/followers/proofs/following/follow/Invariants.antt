-- `following::follow` meets its contract. The loop's invariant: the followers before the next were entered.
use Prim.Native.Nat.{◌-◌}
use lib.ListN.{length}
use Rattle.std.specs.Option.{unwrap_or}
use Rattle.index.specs.Combinations.{combinations_in}
use Rattle.followers.specs.Laws.Following.{Followed}
use Rattle.followers.proofs.following.follow.Given as goal

abbrev pub invariant-loop-next : goal.invariant-loop-next
invariant-loop-next l =
    Followed l.header l.rules.nodes.now l.combinations l.shifted.columns l.source.state
    l.initial.metastates l.initial.arcs l.initial.chains l.source.sizes l.metastates l.arcs l.chains l.now l.next

abbrev pub decreases-loop-next : goal.decreases-loop-next
decreases-loop-next l =
    length (combinations_in l.header l.combinations)
    - unwrap_or l.next (length (combinations_in l.header l.combinations))
