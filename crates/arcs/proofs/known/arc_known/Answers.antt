-- `known::arc_known` meets its contract.
use Rattle.std.proofs.Common.{rules}
use borrow.Author.Tests.{tests}
use Rattle.definitions.specs.Arcs.{arc_words}
use Rattle.definitions.specs.NetworkText.{arc_known}
use Rattle.arcs.proofs.known.arc_known.Goals as goal

pub returns-then-is_state : goal.returns-then-is_state
unfolding arc_known arc_words
returns-then-is_state c = search (rules, tests)

pub returns-else-is_state : goal.returns-else-is_state
unfolding arc_known arc_words
returns-else-is_state c = search (rules, tests)
