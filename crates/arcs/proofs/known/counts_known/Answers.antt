-- `known::counts_known` meets its contract: the ranges of a W line are those of the counts.
use Rattle.definitions.specs.Lines.{in_fixed_ranges, form_of}
use Rattle.lines.specs.Rows.{line_in}
use Rattle.arcs.proofs.known.counts_known.Goals as goal

pub returns : goal.returns
unfolding in_fixed_ranges form_of line_in
returns c = rw c.into.ensures at c.in_fixed_ranges.ensures
