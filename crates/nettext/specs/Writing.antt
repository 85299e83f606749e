-- What writing network text asks of an arc.
use Rattle.std.specs.Prelude.{Bool}
use Rattle.definitions.specs.Arcs.{Arc, arc_words}
use Rattle.definitions.specs.Forms.{form_a}
use Rattle.definitions.specs.Lines.{in_ranges}

-- an arc whose numbers an A line can have
abbrev pub arc_in_range : Arc → Bool
arc_in_range a = in_ranges form_a.fields (arc_words a)
