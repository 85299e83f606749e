-- `rows::row_word` meets its contract.
use Rattle.index.specs.Laws.Rows.{all_set}
use Rattle.index.proofs.rows.row_word.Goals as goal

pub returns-else-at-index : goal.returns-else-at-index
returns-else-at-index c = λ p a b h. all_set p a b
