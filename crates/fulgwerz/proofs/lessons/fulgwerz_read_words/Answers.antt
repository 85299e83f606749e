-- `lessons::fulgwerz_read_words` meets its contract: what the function called answers, as a struct, and
-- what it leaves in the buffers.
use Rattle.std.proofs.Common.{ap, ◌∙◌}
use Rattle.definitions.specs.WordBooks.{word_count}
use Rattle.fulgwerz.specs.Answers.{count_answer}
use Rattle.fulgwerz.specs.Laws.Made.{made}
use Rattle.fulgwerz.proofs.lessons.fulgwerz_read_words.Goals as goal

pub returns : goal.returns
returns c =
    record {
      answer = c.into.ensures ∙ made count_answer word_count (λ n. n) 0 _ c.read.ensures.answer;
      words = c.read.ensures.words;
    }
