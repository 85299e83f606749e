-- `finding::walk` meets its contract. The loop's invariant: the test held at none from the next place on, which has the
-- head.
use Rattle.std.proofs.Common.{List, ℕ}
use Rattle.growing.specs.Chains.{link_of}
use Rattle.growing.specs.Walks.{Walkable, Passed}
use Rattle.growing.proofs.finding.walk.Given as goal

abbrev pub invariant-loop-next : goal.invariant-loop-next
invariant-loop-next g l =
    (keys : List ℕ) → Walkable (λ i. goal.F-pre g l.stands_at i) l.chains keys
    → Passed (λ i b. goal.F-post g l.stands_at i b) l.heads keys l.key l.next

abbrev pub decreases-loop-next : goal.decreases-loop-next
decreases-loop-next g l = link_of l.next
