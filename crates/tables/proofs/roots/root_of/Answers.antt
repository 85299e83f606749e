-- `roots::root_of` meets its contract: it gives the word at the root's place.
use mathlib.Core.Path.{◌∙◌}
use Rattle.tables.proofs.roots.root_of.Goals as goal

pub returns : goal.returns
returns c = c.word_at.ensures ∙ rw c.root_place.ensures.place
