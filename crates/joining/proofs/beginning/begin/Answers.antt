-- `beginning::begin` meets its contract.
use Rattle.joining.specs.Laws.Beginning.{first-place, second-place, both-begun}
use Rattle.joining.proofs.beginning.begin.Goals as goal

pub add_joined-requires : goal.add_joined-requires
add_joined-requires c = first-place c.requires

pub add_joined-requires-2 : goal.add_joined-requires-2
add_joined-requires-2 c =
    second-place c.requires c.add_joined.ensures

pub returns : goal.returns
returns c =
    both-begun c.requires c.add_joined.ensures
    c.add_joined-2.ensures
