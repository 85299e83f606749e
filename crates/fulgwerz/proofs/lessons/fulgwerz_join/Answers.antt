-- `lessons::fulgwerz_join` meets its contract: what the function called answers, as a struct, and
-- what it leaves in the buffers. What is promised of
-- the paths of an answer is promised of the struct.
use Rattle.std.proofs.Common.{ap, ◌∙◌}
use Rattle.joining.specs.Answers.{counts_of, no_counts}
use Rattle.fulgwerz.specs.Answers.{join_answer}
use Rattle.fulgwerz.specs.Laws.Made.{made, joined_made}
use Rattle.fulgwerz.proofs.lessons.fulgwerz_join.Goals as goal

pub returns : goal.returns
returns c =
    let left = c.join.ensures in
    record {
      answer = c.into.ensures ∙ made join_answer counts_of (λ counted. counted) no_counts _ left.answer;
      states = left.states;
      joined = left.joined;
      paths = rw c.into.ensures (joined_made _ _ _ _ _ _ left.paths);
    }
