-- `building::connect_in` meets its contract: what connecting leaves, cleared where it refuses.
use Rattle.std.proofs.Common.{rules, ◌≡◌, sym, ap, ◌∙◌, List, ℕ, ◌*◌, take}
use Rattle.definitions.specs.declared.Header.{Header}
use Rattle.definitions.specs.Combinations.{combination_size}
use Rattle.definitions.specs.Connecting.{Built}
use Rattle.definitions.specs.Faults.{Outcome}
use Rattle.metastates.specs.Outcomes.{connected_in}
use Rattle.network.specs.Laws.Building.{connected-as, answered-returns, refused-returns}
use Rattle.network.proofs.building.connect_in.Goals as goal
use Rattle.network.proofs.building.connect_in.Goals.{After-combination_size}

-- what connecting leads to by words of records of a size
abbrev outcome : (header : Header) (nodes combinations metastates arcs : List ℕ) (count limit size : ℕ) → Outcome Built
outcome header nodes combinations metastates arcs count limit size =
    connected_in header nodes (take (size * count) combinations) metastates arcs limit

-- the size that was computed is that of a record
same_outcome : (c : goal.After-combination_size)
    → outcome c.args.header c.args.nodes.now c.args.combinations.now c.args.metastates.now c.args.arcs.now c.args.count
    c.args.limit c.combination_size.result
    ≡ outcome c.args.header c.args.nodes.now c.args.combinations.now c.args.metastates.now c.args.arcs.now c.args.count
    c.args.limit (combination_size c.args.header.half)
same_outcome c =
    let a = c.args in
    ap (outcome a.header a.nodes.now a.combinations.now a.metastates.now a.arcs.now a.count a.limit)
    c.combination_size.ensures

pub returns-then-is_err : goal.returns-then-is_err
returns-then-is_err c =
    refused-returns
    (connected-as c.connect-answer.ensures (same_outcome (goal.at.returns-then-is_err c).After-combination_size))
    (sym c.is_err.ensures.value ∙ c.if-is_err.true) (search rules) (search rules) (search rules)

pub returns-else-is_err : goal.returns-else-is_err
returns-else-is_err c =
    answered-returns
    (connected-as c.connect-answer.ensures (same_outcome (goal.at.returns-else-is_err c).After-combination_size))
    (sym c.is_err.ensures.value ∙ c.if-is_err.false)
