-- `words::whole_matrix` meets its contract. The loop's invariant: the columns before `c` are read.
use mathlib.Core.Path.{sym, ◌∙◌}
use mathlib.Core.List.{List}
use Prim.Native.Nat.{ℕ}
use lib.ListN.{drop}
use lib.Seq.{get_or-drop}
use Rattle.lines.specs.Laws.Filling.{filled-start}
use Rattle.matrix.specs.Laws.Words.{columns-more, columns-end, seven-length, seven_at}
use Rattle.matrix.proofs.words.whole_matrix.Goals as goal
use Rattle.matrix.proofs.words.whole_matrix.Goals.{Start}

-- the words from the place on
abbrev rest : goal.Start → List ℕ
rest c = drop c.args.from c.args.words.now

pub loop-c-init : goal.loop-c-init
loop-c-init c = filled-start _ _

pub loop-c-preserved : goal.loop-c-preserved
loop-c-preserved c =
    columns-more (seven-length (rest (goal.at.loop-c-preserved c).Start)) c.loop-c.invariant c.loop-c-test.true
    (sym (get_or-drop c.args.from c.args.words.now _ 0)
    ∙ seven_at (rest (goal.at.loop-c-preserved c).Start) _ c.loop-c-test.true)

pub returns : goal.returns
returns c =
    columns-end (seven-length (rest (goal.at.returns c).Start)) c.loop-c.invariant c.loop-c-test.false
