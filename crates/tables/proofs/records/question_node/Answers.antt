-- `records::question_node` meets its contract by computation.
use mathlib.Core.Path.{refl}
use Rattle.definitions.specs.Tables.{node_words}
use Rattle.tables.proofs.records.question_node.Goals as goal

pub returns : goal.returns
unfolding node_words
returns c = refl
