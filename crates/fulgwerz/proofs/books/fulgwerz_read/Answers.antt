-- `books::fulgwerz_read` meets its contract: what the function called answers, as a struct, and
-- what it leaves in the buffers.
use Rattle.std.proofs.Common.{ap, ◌∙◌}
use Rattle.definitions.specs.BookLines.{no_header, header_of}
use Rattle.fulgwerz.specs.Answers.{read_answer}
use Rattle.fulgwerz.specs.Laws.Made.{made}
use Rattle.fulgwerz.proofs.books.fulgwerz_read.Goals as goal

pub returns : goal.returns
returns c =
    record {
      answer = c.into.ensures ∙ made read_answer header_of (λ h. h) no_header _ c.read.ensures.answer;
      tables = c.read.ensures.tables;
    }
