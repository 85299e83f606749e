-- What the code takes a line to say, as a line of document 01.
use Rattle.definitions.specs.NetworkText.{NetworkLine}
use Rattle.definitions.specs.NetworkText as lines
use Rattle.arcs.specs.Arc.{the_arc}
use Rattle.nettext.specs.declared.Entry.{Entry}
use Rattle.nettext.specs.declared.Entry.TheVariants.{W, A}

abbrev pub entry_line : Entry → NetworkLine
entry_line (W counts) = lines.W counts.states counts.metastates counts.arcs
entry_line (A a) = lines.A (the_arc a)
