-- `meet` meets its contract. The loop's invariant: the columns before `c` were met, and none is empty.
use mathlib.Core.Path.{◌≡◌, sym, ◌∙◌}
use native.Mathlib.Omega.{arith}
use lib.ListN.{length, take, length-take}
use Rattle.definitions.specs.Meeting.{columns_met, met_words}
use Rattle.matrix.specs.Laws.Meeting.{meeting-more, meeting-empty, meeting-last}
use borrow.Author.Rules.{rules}
use Rattle.matrix.proofs.Matrix.meet.Goals as goal
use Rattle.matrix.proofs.Matrix.meet.Goals.{At-loop-c, Start}

-- both matrices have seven words
seven : (c : goal.Start) → length c.args.self.columns ≡ 7
seven c = search rules

same : (c : goal.Start) → length c.args.other.columns ≡ length c.args.self.columns
same c = let other : length c.args.other.columns ≡ 7 = search rules in other ∙ sym (seven c)

-- the columns that were met are all
ended : (c : goal.At-loop-c)
    → length (take c.args.width c.args.self.columns) ≡ c.loop-c.c
    → (c.loop-c.columns ≡ met_words (take c.args.width c.args.self.columns)
    (take c.args.width c.args.other.columns))
    × (c.loop-c.c ≡ columns_met (take c.args.width c.args.self.columns)
    (take c.args.width c.args.other.columns))
ended c = meeting-last c.loop-c.invariant (seven c.before) (same c.before)

pub returns-then-width-c : goal.returns-then-width-c
returns-then-width-c c =
    let inv = c.loop-c.invariant in
    let all =
    ended (goal.at.returns-then-width-c c).At-loop-c (rw length-take (omega (arith, c.if-width-c.true, seven (goal.at.returns-then-width-c c).Start, inv.within, inv.written.within))) in
    record { matrix = all.0; count = all.1 }

pub returns-then-both-eq0 : goal.returns-then-both-eq0
returns-then-both-eq0 c =
    let all =
    meeting-empty c.loop-c.invariant (seven (goal.at.returns-then-both-eq0 c).Start) (same (goal.at.returns-then-both-eq0 c).Start) c.if-width-c.false
    c.loop-c-test.true c.if-both-eq0.true in
    record { matrix = all.0; count = all.1 }

pub loop-c-preserved : goal.loop-c-preserved
loop-c-preserved c =
    meeting-more c.loop-c.invariant (seven (goal.at.loop-c-preserved c).Start) (same (goal.at.loop-c-preserved c).Start) c.if-width-c.false
    c.loop-c-test.true c.if-both-eq0.false

pub returns : goal.returns
returns c =
    let inv = c.loop-c.invariant in
    let last : 7 ≡ c.loop-c.c = search rules in
    let all =
    ended (goal.at.returns c).At-loop-c (rw length-take
    (omega (arith, last, seven (goal.at.returns c).Start, inv.within, inv.written.within))) in
    record { matrix = all.0; count = last ∙ all.1 }
