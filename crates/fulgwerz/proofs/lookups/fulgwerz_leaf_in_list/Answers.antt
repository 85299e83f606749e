-- `lookups::fulgwerz_leaf_in_list` meets its contract: what the function called answers, as a struct.
use Rattle.std.proofs.Common.{ap, ◌∙◌}
use Rattle.trees.specs.Answers.{walked_of, no_walk}
use Rattle.fulgwerz.specs.Answers.{leaf_answer}
use Rattle.fulgwerz.specs.Laws.Made.{made}
use Rattle.fulgwerz.proofs.lookups.fulgwerz_leaf_in_list.Goals as goal

pub returns : goal.returns
returns c = c.into.ensures ∙ made leaf_answer walked_of (λ walked. walked) no_walk _ c.leaf_of.ensures
