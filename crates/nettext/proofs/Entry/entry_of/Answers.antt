-- `Entry::entry_of` meets its contract, letter by letter.
use mathlib.Core.Path.{sym}
use borrow.Author.Tests.{ne_eqb}
use Rattle.definitions.specs.NetworkText.{network_line}
use Rattle.nettext.specs.Laws.Rows.{row-says}
use Rattle.nettext.proofs.Entry.entry_of.Goals as goal

pub returns-then-row-eq87 : goal.returns-then-row-eq87
unfolding network_line
returns-then-row-eq87 c = rw (row-says _ c.requires, c.if-row-eq87.true)

pub returns-else-row-eq87 : goal.returns-else-row-eq87
unfolding network_line
returns-else-row-eq87 c =
    let no-W = ne_eqb 87 _ (λ e. c.if-row-eq87.false (sym e)) in
    rw (row-says _ c.requires, no-W)
