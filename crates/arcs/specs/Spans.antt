-- Where the arcs that leave a state stand in the lent arcs.
use Rattle.std.specs.Prelude.{◌*◌}
use Rattle.definitions.specs.Arcs.{arc_size}
use Rattle.definitions.specs.Leaving.{Part}
use Rattle.definitions.specs.Said.{Span}
use Rattle.arcs.specs.declared.Span as declared

-- where a part stands, in words
abbrev pub span_at : Part → declared.Span
span_at part = record { start = arc_size * part.start; length = arc_size * part.count }

-- the same place, as it is said in numbers
abbrev pub span_said : declared.Span → Span
span_said span = record { start = span.start; length = span.length }
