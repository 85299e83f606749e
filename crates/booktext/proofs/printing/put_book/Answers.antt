-- `printing::put_book` meets its contract: its parts are written one after the other, all few enough to count.
use native.Mathlib.Omega.{arith}
use Rattle.definitions.specs.BookText.{book_line_for}
use Rattle.lines.specs.Rows.{line_in}
use Rattle.booktext.specs.Laws.AllLines.{book-parts, PartsFew, parts-few}
use Rattle.booktext.specs.Laws.Putting.{put_then, put_same}
use borrow.Author.Rules.{rules}
use Rattle.booktext.proofs.printing.put_book.Goals as goal
use Rattle.booktext.proofs.printing.put_book.Goals.{Start}

-- the lines of all parts can be counted
few : (c : goal.Start) → let a = c.args in
    PartsFew a.header a.nodes.now a.sets.now a.roots.now a.plains.now
few c =
    let a = c.args in
    parts-few a.header a.nodes.now a.sets.now a.roots.now a.plains.now (search rules) (search rules)
    c.requires.1 c.requires.2 c.requires.3

pub put_classes-members-requires : goal.put_classes-members-requires
put_classes-members-requires c =
    (omega (arith, c.requires.1), omega (arith, c.put_line-heading.ensures.counts, few (goal.at.put_classes-members-requires c).Start))

pub put_nodes-all_nodes-requires : goal.put_nodes-all_nodes-requires
put_nodes-all_nodes-requires c =
    omega (arith, c.put_line-heading.ensures.counts, c.put_classes-members.ensures.counts, few (goal.at.put_nodes-all_nodes-requires c).Start)

pub put_boundaries-boundaries-requires : goal.put_boundaries-boundaries-requires
put_boundaries-boundaries-requires c = (
  omega (arith, c.requires.3),
  omega (
    arith,
    c.put_line-heading.ensures.counts,
    c.put_classes-members.ensures.counts,
    c.put_nodes-all_nodes.ensures.counts,
    few (goal.at.put_boundaries-boundaries-requires c).Start,
  ),
)

pub put_roots-requires : goal.put_roots-requires
put_roots-requires c = (
  c.requires.0,
  omega (arith, c.requires.2),
  omega (
    arith,
    c.put_line-heading.ensures.counts,
    c.put_classes-members.ensures.counts,
    c.put_nodes-all_nodes.ensures.counts,
    c.put_boundaries-boundaries.ensures.counts,
    few (goal.at.put_roots-requires c).Start,
  ),
)

pub returns : goal.returns
unfolding book_line_for line_in
returns c =
    let a = c.args in
    put_same (book-parts a.header a.nodes.now a.sets.now a.roots.now a.plains.now)
    (put_then (put_then (put_then (put_then (rw c.into.ensures at c.put_line-heading.ensures) c.put_classes-members.ensures)
    c.put_nodes-all_nodes.ensures) c.put_boundaries-boundaries.ensures) c.put_roots.ensures)
