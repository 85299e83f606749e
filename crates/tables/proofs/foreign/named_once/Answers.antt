-- `foreign::named_once` meets its contract: the counts of children and roots tell the first orphan.
use mathlib.Core.Path.{sym}
use native.Mathlib.Omega.{arith}
use lib.Seq.{length-take-le}
use Rattle.definitions.proofs.Laws.Books.Books.{roots_few}
use Rattle.definitions.proofs.Laws.Books.AcceptedKnown.{header-ranges}
use Rattle.tables.specs.Laws.TableTests.{root-count, roots-taken}
use Rattle.tables.specs.Laws.NamingTables.{once-counted}
use Prim.Native.Nat.{◌≤◌}
use lib.ListN.{length}
use Rattle.tables.proofs.foreign.named_once.Goals as goal
use Rattle.tables.proofs.foreign.named_once.Goals.{After-wide-count}

pub overflow_mul-used : goal.overflow_mul-used
overflow_mul-used c =
    let count = root-count c.args.header c.wide.ensures c.wide-2.ensures in
    let few = roots_few c.args.header (header-ranges c.args.header c.requires.0) in
    record { fits = omega (arith, count, few) }

pub slice_bounds-name_roots-end-2 : goal.slice_bounds-name_roots-end-2
slice_bounds-name_roots-end-2 c =
    roots-taken _ _ (root-count c.args.header c.wide.ensures c.wide-2.ensures)
    c.requires.1

-- as many counts as nodes
counted : (c : After-wide-count) → c.wide-count.result ≤ length c.name_roots.new.counts
counted c =
    omega (
      arith,
      c.wide-count.ensures,
      (header-ranges c.args.header c.requires.0).nodes_range.high,
      c.name_roots.auto.counts,
      c.name_all_children.auto.counts,
    )

pub slice_bounds-counts-end : goal.slice_bounds-counts-end
slice_bounds-counts-end c = counted (goal.at.slice_bounds-counts-end c).After-wide-count

pub slice_bounds-first_misnamed-end : goal.slice_bounds-first_misnamed-end
slice_bounds-first_misnamed-end c =
    sym (length-take-le _ _ (counted (goal.at.slice_bounds-first_misnamed-end c).After-wide-count))

pub returns : goal.returns
returns c =
    once-counted _ _ _ c.requires.0 (root-count _ c.wide.ensures c.wide-2.ensures)
    c.wide-count.ensures c.name_all_children.ensures c.name_roots.ensures
    (rw c.first_misnamed.ensures at c.is_none.ensures)
