-- `judging::entry_of` meets its contract.
use mathlib.Core.Path.{sym}
use Rattle.definitions.specs.WordBooks.{word_line}
use Rattle.words.specs.Laws.Judging.{row-says}
use Rattle.words.proofs.judging.entry_of.Goals as goal

pub returns : goal.returns
unfolding word_line
returns c = sym (row-says _ c.requires)
