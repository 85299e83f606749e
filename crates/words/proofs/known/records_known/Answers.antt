-- `known::records_known` meets its contract: the chunks are the records.
use Rattle.std.proofs.Common.{rules, arith, ap, ◌∙◌}
use borrow.Author.Tests.{tests}
use Rattle.definitions.specs.WordBooks.{word_known}
use Rattle.words.specs.Laws.KnownWords.{every-by_chunks}
use Rattle.words.proofs.known.records_known.Goals as goal

pub returns : goal.returns
returns c =
    let (p, from, told) = c.all.ensures.runs in
    let cut = c.chunks_exact.ensures in
    let size = ap (λ s. s.size) from ∙ cut.size in
    every-by_chunks word_known c.args.words.now _ _ p size (ap (λ s. s.rest.now) from ∙ cut.rest)
    (cut.runs p p.seen (omega (arith, size))) (λ x b q k. search (rules, tests)) told
