-- `known::word_known` meets its contract, by the record's length, its phones and what follows them.
use Rattle.std.proofs.Common.{sym, ◌∙◌}
use Rattle.definitions.specs.ForeignTables.{holds_only}
use Rattle.words.specs.Laws.KnownWords.{word-empty, word-long, word-misspoken, word-judged}
use Rattle.words.proofs.known.word_known.Goals as goal
use Rattle.words.proofs.known.word_known.Goals.{then-count-eq0-via-then-count-eq0, then-count-eq0-via-else-count-eq0+then-count-ge-WORD_SIZE}

pub returns-then-count-eq0 : goal.returns-then-count-eq0
returns-then-count-eq0 c = elim c.then-count-eq0.branch [
  | then-count-eq0-via-then-count-eq0 w ↦ word-empty _ c.wide-count.ensures w.if-count-eq0.true
  | then-count-eq0-via-else-count-eq0+then-count-ge-WORD_SIZE w ↦
      word-long _ c.wide-count.ensures w.if-count-eq0.false w.if-count-ge-WORD_SIZE.true
]

pub returns-then-phones_known : goal.returns-then-phones_known
unfolding holds_only
returns-then-phones_known c =
    c.holds_only.ensures
    ∙ word-judged _ c.wide-count.ensures c.if-count-eq0.false c.if-count-ge-WORD_SIZE.false c.requires
    (sym c.if-phones_known.ensures)

pub returns-else-phones_known : goal.returns-else-phones_known
returns-else-phones_known c =
    c.phones_known.ensures ∙ sym c.if-phones_known.ensures
    ∙ word-misspoken _ c.wide-count.ensures c.if-count-eq0.false c.if-count-ge-WORD_SIZE.false (sym c.if-phones_known.ensures)
