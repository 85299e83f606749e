-- `wanting::wanted` meets its contract, by cases of the mark.
use Rattle.std.proofs.Common.{arith}
use Rattle.marks.specs.Laws.Lexicon.{word-past}
use Rattle.marks.specs.Laws.Wanting.{leads-past, leads-first, leads-closed}
use Rattle.marks.proofs.wanting.wanted.Goals as goal

pub returns-in-0-eq0 : goal.returns-in-0-eq0
returns-in-0-eq0 c = leads-first _ _ _ c.in-0-eq0.is-0 c.in-0-eq0.is-1

pub returns-in-0-default : goal.returns-in-0-default
returns-in-0-default c =
    let (other, n) = c.in-0-default.is-1 in leads-closed _ _ _ c.in-0-default.is-0 other.1 n

pub returns-in_default : goal.returns-in_default
returns-in_default c =
    leads-past _ _ _ (omega (arith, c.in_default.is-0.1))
    (word-past c.args.words.now c.args.mark.word c.args.mark.mark (omega (arith, c.if-words-wide.true, c.wide.ensures)))
