-- `finding::find` meets its contract: what the walk along the chain of the key finds.
use Rattle.std.proofs.Common.{rules, map}
use Rattle.growing.specs.Chains.{elements_in}
use Rattle.growing.specs.Laws.Finding.{walkable, found}
use Rattle.joined.specs.States.{joined_of, joined_code}
use Rattle.joined.specs.Laws.Rows.{joined-coded}
use Rattle.joined.proofs.finding.find.Goals as goal

pub walk-requires : goal.walk-requires
walk-requires c = (
  map joined_code.key (elements_in joined_code c.args.states.now),
  walkable c.requires.flat c.requires.linked (λ i within. search rules),
)

pub returns : goal.returns
returns c =
    found c.requires.flat c.requires.linked (joined-coded (joined_of c.args.x)) c.walk.ensures c.key_of.ensures
    (λ i within. search rules) (λ i b tells. search rules)
