-- `chains::find` meets its contract: what the walk along the chain of the key finds.
use Rattle.std.proofs.Common.{rules, map, ◌∙◌}
use Rattle.definitions.specs.Metastates.{Metastate}
use Rattle.growing.specs.Chains.{Coded, elements_in}
use Rattle.growing.specs.Laws.Finding.{walkable, found}
use Rattle.metastates.specs.Networks.{metastate_code, metastate_with}
use Rattle.metastates.specs.Laws.HeldBack.{metastate-coded, metastate-wide, metastate-key}
use Rattle.metastates.proofs.chains.find.Goals as goal
use Rattle.metastates.proofs.chains.find.Goals.{Start}

-- the metastate that is looked for is one that can be coded
abbrev sought : goal.Start → Metastate
sought c = metastate_with c.args.half c.args.number c.args.m.columns

own : (c : goal.Start) → Coded (metastate_code c.args.half) (sought c)
own c =
    let (_, wide, few) = c.requires in
    metastate-coded c.args.half few (sought c) (metastate-wide c.args.half c.args.number c.args.m.columns few wide)

pub walk-requires : goal.walk-requires
walk-requires c =
    let code = metastate_code c.args.half in
    let (findable, wide, few) = c.requires in (
      map code.key (elements_in code c.args.metastates.now),
      walkable findable.flat findable.linked (λ i within. search rules),
    )

pub returns : goal.returns
returns c =
    let (findable, wide, few) = c.requires in
    let start = (goal.at.returns c).Start in
    found findable.flat findable.linked (own start) c.walk.ensures
    (c.key_of.ensures.0 ∙ metastate-key c.args.half c.args.number c.args.m.columns few wide)
    (λ i within. search rules) (λ i b tells. search rules)
