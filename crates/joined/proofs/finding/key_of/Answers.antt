-- `finding::key_of` meets its contract.
use Rattle.joined.specs.States.{joined_key}
use Rattle.joined.proofs.finding.key_of.Goals as goal

pub returns : goal.returns
unfolding joined_key
returns c = rw (c.wide.ensures, c.wide-2.ensures, c.wide-3.ensures)
