-- `next_follower` meets its contract. The loop's invariant: none before the next to try follows.
use Prim.Native.Nat.{◌-◌}
use Rattle.std.specs.Option.{unwrap_or}
use Rattle.matrix.specs.Shapes.{matrix_in}
use Rattle.index.specs.Combinations.{combinations_in}
use Rattle.index.specs.Laws.Rows.{Ahead}
use Rattle.index.proofs.Combinations.next_follower.Given as goal

abbrev pub invariant-loop-next : goal.invariant-loop-next
invariant-loop-next l =
    Ahead (matrix_in l.self.header.half l.shifted.columns) (combinations_in l.self.header l.self.words.now)
    l.from l.next

abbrev pub decreases-loop-next : goal.decreases-loop-next
decreases-loop-next l = l.count - unwrap_or l.next l.count
