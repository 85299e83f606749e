-- `known::words_known` meets its contract, by the count, what stands beyond the records, and the records.
use Rattle.std.proofs.Common.{sym, ◌∙◌}
use Rattle.definitions.specs.ForeignTables.{holds_only}
use Rattle.tables.specs.Laws.TableTests.{holds-taken}
use Rattle.words.specs.Laws.KnownWords.{words-none, words-many, words-unheld, words-judged}
use Rattle.words.proofs.known.words_known.Goals as goal
use Rattle.words.proofs.known.words_known.Goals.{then-count-eq0-via-then-count-eq0, then-count-eq0-via-else-count-eq0+then-count-gt-MOST_WORDS}

pub returns-then-count-eq0 : goal.returns-then-count-eq0
returns-then-count-eq0 c = elim c.then-count-eq0.branch [
  | then-count-eq0-via-then-count-eq0 w ↦ words-none _ _ w.if-count-eq0.true
  | then-count-eq0-via-else-count-eq0+then-count-gt-MOST_WORDS w ↦
      words-many _ _ w.if-count-eq0.false w.if-count-gt-MOST_WORDS.true
]

pub slice_bounds-records_known-end : goal.slice_bounds-records_known-end
unfolding holds_only
slice_bounds-records_known-end c = holds-taken _ _ (sym c.if-holds_only.ensures)

pub returns-then-holds_only : goal.returns-then-holds_only
unfolding holds_only
returns-then-holds_only c =
    c.records_known.ensures
    ∙ words-judged _ _ c.if-count-eq0.false c.if-count-gt-MOST_WORDS.false (sym c.if-holds_only.ensures)

pub returns-else-holds_only : goal.returns-else-holds_only
unfolding holds_only
returns-else-holds_only c =
    c.holds_only.ensures ∙ sym c.if-holds_only.ensures
    ∙ words-unheld _ _ c.if-count-eq0.false c.if-count-gt-MOST_WORDS.false (sym c.if-holds_only.ensures)
