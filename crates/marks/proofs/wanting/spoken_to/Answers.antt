-- `wanting::spoken_to` meets its contract: the word of 32 bits before a word's phones is its length.
use Rattle.std.proofs.Common.{◌≡◌, sym, ap, ◌∙◌, ℕ, ◌-◌, ◌*◌, length}
use Rattle.definitions.specs.Lists.{◌!◌}
use Rattle.definitions.specs.WordBooks.{word_size}
use Rattle.definitions.specs.Joining.{phones_in}
use Rattle.marks.specs.Lexicon.{spelled}
use Rattle.marks.specs.Laws.Lexicon.{word-length}
use Rattle.marks.specs.Laws.Wanting.{spoken-out, spoken-on}
use Rattle.marks.proofs.wanting.spoken_to.Goals as goal
use Rattle.marks.proofs.wanting.spoken_to.Goals.{After-wide}

-- the length of the word
length-read : (c : goal.After-wide)
    → c.args.words.now ! (word_size * (c.wide.result - 1))
    ≡ length (phones_in (spelled c.args.words.now) c.args.word)
length-read c =
    let (lexicon, own) = c.requires in
    ap (λ (w : ℕ). c.args.words.now ! (word_size * (w - 1))) c.wide.ensures ∙ word-length lexicon own

pub returns-then-words-wide : goal.returns-then-words-wide
returns-then-words-wide c =
    spoken-out _ _ _
    (sym (length-read (goal.at.returns-then-words-wide c).After-wide) ∙ c.if-words-wide.true)

pub returns-else-words-wide : goal.returns-else-words-wide
returns-else-words-wide c =
    spoken-on _ _ _
    (λ same. c.if-words-wide.false (length-read (goal.at.returns-else-words-wide c).After-wide ∙ same))
