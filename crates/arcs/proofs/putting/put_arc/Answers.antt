-- `putting::put_arc` meets its contract: four words put one by one are the words put at once.
use Rattle.definitions.specs.Arcs.{arc_words}
use Rattle.lines.specs.Laws.Putting.{put-each}
use Rattle.arcs.proofs.putting.put_arc.Goals as goal

pub returns : goal.returns
unfolding arc_words
returns c = put-each _ _ _ _ c.requires
