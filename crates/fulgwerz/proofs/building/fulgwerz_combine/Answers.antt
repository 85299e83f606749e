-- `building::fulgwerz_combine` meets its contract: what the function called answers, as a struct, and
-- what it leaves in the buffers.
use Rattle.std.proofs.Common.{◌∙◌}
use Rattle.combinations.specs.Answers.{by_phone}
use Rattle.fulgwerz.specs.Answers.{count_answer}
use Rattle.fulgwerz.specs.Laws.Made.{made}
use Rattle.fulgwerz.proofs.building.fulgwerz_combine.Goals as goal

pub returns : goal.returns
returns c =
    record {
      answer = c.into.ensures ∙ made count_answer (by_phone _) (λ by. by.count) 0 _ c.combine.ensures.answer;
      leaves = c.combine.ensures.leaves;
    }
