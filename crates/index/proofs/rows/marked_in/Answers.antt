-- `rows::marked_in` meets its contract: a place that is set in three words is set in their meet.
use Rattle.index.specs.Laws.Rows.{in_all}
use Rattle.index.proofs.rows.marked_in.Goals as goal

pub returns : goal.returns
returns c =
    λ p a b all.
    in_all p c.row_word.result c.row_word-2.result c.row_word-3.result
    (c.row_word.ensures p a b all.first) (c.row_word-2.ensures p a b all.second)
    (c.row_word-3.ensures p a b all.third)
