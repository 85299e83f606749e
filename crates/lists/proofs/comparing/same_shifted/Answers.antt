-- `comparing::same_shifted` meets its contract: the shift drops the first column, and the last is all phones.
use Rattle.lists.specs.Laws.Comparing.{shifted-same}
use Rattle.lists.proofs.comparing.same_shifted.Goals as goal

pub returns : goal.returns
returns c = shifted-same _ _ c.same_beyond.ensures
