-- `networks::fulgwerz_read_network` meets its contract: what the function called answers, as a struct, and
-- what it leaves in the buffers.
use Rattle.std.proofs.Common.{ap, ◌∙◌}
use Rattle.definitions.specs.NetworkText.{no_counts, counts_of}
use Rattle.fulgwerz.specs.Answers.{network_answer}
use Rattle.fulgwerz.specs.Laws.Made.{made}
use Rattle.fulgwerz.proofs.networks.fulgwerz_read_network.Goals as goal

pub returns : goal.returns
returns c =
    record {
      answer = c.into.ensures ∙ made network_answer counts_of (λ counts. counts) no_counts _ c.read.ensures.answer;
      arcs = c.read.ensures.arcs;
    }
