-- `joining::join` meets its contract. The loop's invariant: the first `c` columns are joined.
use Rattle.std.proofs.Common.{◌≡◌, arith, length}
use Rattle.definitions.specs.Matrices.{most_columns}
use Rattle.lines.specs.Laws.Filling.{filled-start}
use Rattle.lists.specs.Laws.Joining.{joined_length, joined-column}
use Rattle.lists.specs.Laws.Values.{made_more, made-end}
use borrow.Author.Rules.{rules}
use Rattle.lists.proofs.joining.join.Goals as goal
use Rattle.lists.proofs.joining.join.Goals.{Start}

pub loop-c-init : goal.loop-c-init
loop-c-init c = filled-start _ _

module _ (c : goal.Start) where
  seven-a : length c.args.a.columns ≡ most_columns
  seven-a = search rules

  seven-b : length c.args.b.columns ≡ most_columns
  seven-b = search rules

pub loop-c-preserved : goal.loop-c-preserved
loop-c-preserved c =
    let at = (goal.at.loop-c-preserved c).Start in
    made_more c.requires _ (joined_length c.requires _ (seven-a at) _ (seven-b at)) c.loop-c.invariant (omega arith)
    (joined-column c.requires _ (seven-a at) _ (seven-b at) _ (omega arith))

pub returns : goal.returns
returns c =
    let at = (goal.at.returns c).Start in
    made-end c.requires _ (joined_length c.requires _ (seven-a at) _ (seven-b at)) c.loop-c.invariant (omega arith)
