-- `records::put_node` meets its contract: five words copied to the record's place.
use native.Mathlib.Omega.{arith}
use Rattle.tables.specs.Laws.Records.{mid-put}
use Rattle.tables.proofs.records.put_node.Goals as goal

pub returns : goal.returns
returns c =
    rw (c.copy_from_slice.ensures.after, c.wide-at.ensures) (mid-put _ _ _ _ (omega arith))
