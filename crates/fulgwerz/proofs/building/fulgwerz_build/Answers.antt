-- `building::fulgwerz_build` meets its contract: what the function called answers, as a struct, and
-- what it leaves in the buffers.
use Rattle.std.proofs.Common.{ap, ◌∙◌}
use Rattle.fulgwerz.specs.Answers.{build_answer}
use Rattle.network.specs.Laws.Said.{build-said}
use Rattle.fulgwerz.proofs.building.fulgwerz_build.Goals as goal

pub returns : goal.returns
returns c =
    record {
      answer = c.into.ensures ∙ ap build_answer (build-said _ _ c.build.ensures.answer);
      leaves = c.build.ensures.leaves;
    }
