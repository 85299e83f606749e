-- `sequences::fill_context` meets its contract. The loop's invariant: the columns before `column` hold the
-- context's phones, the others are as they were.
use mathlib.Core.Path.{◌≡◌, ◌∙◌}
use native.Mathlib.Omega.{arith}
use lib.ListN.{length}
use Rattle.definitions.proofs.Laws.Trees.Contexts.{context_at, silent-context-length}
use Rattle.lines.specs.Laws.Filling.{filled-start, filled_more, filled-end}
use borrow.Author.Rules.{rules}
use Rattle.transcripts.proofs.sequences.fill_context.Goals as goal
use Rattle.transcripts.proofs.sequences.fill_context.Goals.{Start}

-- a phone for each column
as_many : (c : goal.Start)
    → length (context_at c.args.half c.args.sequence.now c.args.place)
    ≡ length c.args.context.now
as_many c =
    let a = c.args in
    silent-context-length a.half a.sequence.now a.place (search rules) ∙ search rules

pub loop-column-init : goal.loop-column-init
loop-column-init c = filled-start _ _

pub loop-column-preserved : goal.loop-column-preserved
loop-column-preserved c =
    filled_more (as_many (goal.at.loop-column-preserved c).Start) c.loop-column.invariant
    (omega (arith, c.loop-column-test.true, c.loop-column.invariant.sized)) c.phone_at.ensures

pub returns : goal.returns
returns c =
    filled-end (as_many (goal.at.returns c).Start) c.loop-column.invariant (omega (arith, c.loop-column-test.false, c.loop-column.invariant.sized))
