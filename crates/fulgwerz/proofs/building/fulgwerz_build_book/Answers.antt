-- `building::fulgwerz_build_book` meets its contract: what the function called answers, as a struct, and
-- what it leaves in the buffers. What holds of a
-- finished answer's counts holds of the struct's.
use Rattle.std.proofs.Common.{ap, ◌∙◌}
use Rattle.fulgwerz.specs.Answers.{build_answer}
use Rattle.builder.specs.Laws.Said.{book-said}
use Rattle.fulgwerz.specs.Laws.Made.{finished-made}
use Rattle.fulgwerz.proofs.building.fulgwerz_build_book.Goals as goal

pub returns : goal.returns
returns c =
    let left = c.build_book.ensures in
    record {
      answer = c.into.ensures ∙ ap build_answer (book-said _ left.answer);
      tables = left.tables;
      leaves = left.leaves;
      demand = rw c.into.ensures (finished-made _ _ left.demand);
      ending = rw c.into.ensures (finished-made _ _ left.ending);
    }
