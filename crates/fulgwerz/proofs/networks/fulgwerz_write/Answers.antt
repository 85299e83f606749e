-- `networks::fulgwerz_write` meets its contract: what the function called answers, as a struct, and
-- what it leaves in the buffers.
use Rattle.std.proofs.Common.{ap, ◌∙◌}
use Rattle.std.proofs.Common.{length}
use Rattle.fulgwerz.specs.Answers.{count_answer}
use Rattle.fulgwerz.specs.Laws.Made.{made}
use Rattle.fulgwerz.proofs.networks.fulgwerz_write.Goals as goal

pub returns : goal.returns
returns c =
    record {
      answer = c.into.ensures ∙ made count_answer length (λ n. n) 0 _ c.write.ensures.answer;
      leaves = c.write.ensures.leaves;
    }
