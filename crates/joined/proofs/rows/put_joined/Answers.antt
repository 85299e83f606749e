-- `rows::put_joined` meets its contract: three words put one by one are the words put at once.
use Rattle.definitions.specs.Joining.{joined_words}
use Rattle.lines.specs.Laws.Putting.{put-each}
use Rattle.joined.proofs.rows.put_joined.Goals as goal

pub returns : goal.returns
unfolding joined_words
returns c = put-each _ _ _ _ c.requires
