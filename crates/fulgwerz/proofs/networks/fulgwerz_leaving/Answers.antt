-- `networks::fulgwerz_leaving` meets its contract: what the function called answers, as a struct.
use Rattle.std.proofs.Common.{ap, ◌∙◌}
use Rattle.definitions.specs.Said.{no_span}
use Rattle.arcs.specs.Spans.{span_at, span_said}
use Rattle.fulgwerz.specs.Answers.{part_answer}
use Rattle.fulgwerz.specs.Laws.Made.{made}
use Rattle.fulgwerz.proofs.networks.fulgwerz_leaving.Goals as goal

pub returns : goal.returns
returns c = c.into.ensures ∙ made part_answer span_at span_said no_span _ c.part_leaving.ensures
