-- `meets` meets its contract: the first word of a meeting is 0 exactly where it is not valid.
use mathlib.Core.Path.{◌≡◌, sym, ◌∙◌}
use lib.ListN.{length}
use Rattle.matrix.specs.Laws.Meeting.{first-tells}
use borrow.Author.Rules.{rules}
use Rattle.matrix.proofs.Matrix.meets.Goals as goal

pub returns : goal.returns
returns c =
    let a = c.args.self.columns in
    let b = c.args.other.columns in
    let seven : length a ≡ 7 = search rules in
    let other : length b ≡ 7 = search rules in
    first-tells a b c.args.width seven (other ∙ sym seven) c.requires c.meet.ensures.matrix
