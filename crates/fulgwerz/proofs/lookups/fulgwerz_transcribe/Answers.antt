-- `lookups::fulgwerz_transcribe` meets its contract: what the function called answers, as a struct, and
-- what it leaves in the buffers.
use Rattle.std.proofs.Common.{ap, ◌∙◌}
use Rattle.transcripts.specs.Answers.{tally_of, no_tally}
use Rattle.fulgwerz.specs.Answers.{transcript_answer}
use Rattle.fulgwerz.specs.Laws.Made.{made}
use Rattle.fulgwerz.proofs.lookups.fulgwerz_transcribe.Goals as goal

pub returns : goal.returns
returns c =
    record {
      answer = c.into.ensures ∙ made transcript_answer tally_of (λ tally. tally) no_tally _ c.transcribe.ensures.answer;
      leaves = c.transcribe.ensures.leaves;
    }
