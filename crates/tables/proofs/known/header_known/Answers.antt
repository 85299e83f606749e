-- `known::header_known` meets its contract: the ranges of an H line are those of the header.
use Rattle.definitions.specs.Lines.{in_fixed_ranges, form_of}
use Rattle.definitions.specs.ForeignTables.{header_known}
use Rattle.lines.specs.Rows.{line_in}
use Rattle.tables.proofs.known.header_known.Goals as goal

pub returns : goal.returns
unfolding in_fixed_ranges form_of header_known line_in
returns c = rw c.into.ensures at c.in_fixed_ranges.ensures
