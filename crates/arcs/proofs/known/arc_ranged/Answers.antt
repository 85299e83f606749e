-- `known::arc_ranged` meets its contract: no word is below its range.
use Rattle.std.proofs.Common.{rules}
use borrow.Author.Tests.{tests}
use Rattle.definitions.specs.Arcs.{arc_words}
use Rattle.definitions.specs.Lines.{in_ranges}
use Rattle.arcs.proofs.known.arc_ranged.Goals as goal

pub returns-then-arc-le-MOST_MODEL : goal.returns-then-arc-le-MOST_MODEL
unfolding in_ranges arc_words
returns-then-arc-le-MOST_MODEL c = search (rules, tests)

pub returns-else-arc-le-MOST_MODEL : goal.returns-else-arc-le-MOST_MODEL
unfolding in_ranges arc_words
returns-else-arc-le-MOST_MODEL c = search (rules, tests)
