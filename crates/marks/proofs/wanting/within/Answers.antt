-- `wanting::within` meets its contract: the phone after those that are spoken, or none past the word's end.
use mathlib.Core.Path.{ap, ap₂, ◌∙◌}
use Prim.Native.Nat.{ℕ, ◌+◌, ◌-◌, ◌*◌}
use native.Mathlib.Numerals.{add-one}
use Rattle.definitions.specs.Lists.{◌!◌}
use Rattle.definitions.specs.WordBooks.{word_size}
use Rattle.definitions.specs.Joining.{spoken_to}
use Rattle.marks.specs.Lexicon.{spelled}
use Rattle.marks.specs.Laws.Lexicon.{word-phone, phone-past}
use Rattle.marks.specs.Laws.Wanting.{leads-within, leads-past}
use Rattle.marks.proofs.wanting.within.Goals as goal

pub returns-then-mark-ge64 : goal.returns-then-mark-ge64
returns-then-mark-ge64 c =
    let (lexicon, own) = c.requires in
    leads-past _ _ _ own.low
    (phone-past lexicon own c.args.mark.mark c.if-mark-ge64.true)

pub returns : goal.returns
returns c =
    let (lexicon, own) = c.requires in
    let a = c.args in
    leads-within _ _ _ _ _ own.low
    (ap₂ (λ (w m : ℕ). a.words.now ! (word_size * (w - 1) + 1 + m)) c.wide.ensures
    c.wide-2.ensures
    ∙ word-phone lexicon own a.mark.mark c.if-mark-ge64.false)
    (c.spoken_to.ensures ∙ ap (spoken_to (spelled a.words.now) a.mark.word) (add-one a.mark.mark))
