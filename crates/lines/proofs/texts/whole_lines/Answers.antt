-- `texts::whole_lines` meets its contract. The loop's invariant: the text is in whole lines where its lines
-- from `i` on end in a line feed.
use mathlib.Core.Path.{◌∙◌}
use mathlib.Core.List.{[]}
use borrow.Author.Rules.{rules}
use borrow.Author.Tests.{eq-eqb, ne_eqb}
use Rattle.lines.specs.Laws.Passing.{passed-more, passed-stop, passed-end}
use Rattle.lines.specs.Laws.Texts.{lines-count, line-listed, feed-at, whole-empty, whole-torn}
use Rattle.lines.specs.Laws.Texts.{whole-rest}
use Rattle.lines.proofs.texts.whole_lines.Goals as goal
use Rattle.lines.proofs.texts.whole_lines.Goals.{then-is_empty-via-then-is_empty, then-is_empty-via-else-is_empty+then-text-ne0}

pub returns-then-is_empty : goal.returns-then-is_empty
returns-then-is_empty c =
    elim c.then-is_empty.branch [
      | then-is_empty-via-then-is_empty w ↦ whole-empty _ (search rules)
      | then-is_empty-via-else-is_empty+then-text-ne0 w ↦ whole-torn _ w.if-text-ne0.true
    ]

pub loop-i-init : goal.loop-i-init
loop-i-init c = whole-rest _ (search rules) c.if-text-ne0.false

pub returns-then-text-i-ne10 : goal.returns-then-text-i-ne10
returns-then-text-i-ne10 c =
    let text = c.args.text.now in
    let at = c.loop-i in
    let line = c.loop-i-test.true in
    passed-stop [] at.invariant (line-listed text at.i line)
    (feed-at text at.i line ∙ ne_eqb _ _ c.if-text-i-ne10.true)

pub loop-i-preserved : goal.loop-i-preserved
loop-i-preserved c =
    let text = c.args.text.now in
    let at = c.loop-i in
    let line = c.loop-i-test.true in
    passed-more [] at.invariant (line-listed text at.i line)
    (feed-at text at.i line ∙ eq-eqb _ _ c.if-text-i-ne10.false)

pub returns : goal.returns
returns c = passed-end c.loop-i.invariant (rw (lines-count c.args.text.now) c.loop-i-test.false)
