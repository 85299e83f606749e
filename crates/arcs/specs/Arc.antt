-- The definition's arc of an arc in the code.
use Rattle.definitions.specs.Arcs.{Arc, arc}
use Rattle.arcs.specs.declared.Arc as declared

abbrev pub the_arc : declared.Arc → Arc
the_arc a = arc a.from a.to a.model a.phone
