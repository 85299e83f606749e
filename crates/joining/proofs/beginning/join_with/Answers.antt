-- `beginning::join_with` meets its contract.
use Rattle.std.proofs.Common.{refl, ap, rules}
use Rattle.std.proofs.lemmas.Result.{err_from_is_err_and}
use Rattle.joined.specs.Joins.{stepped}
use Rattle.joining.specs.Laws.Starting.{index-room, join-left, join-found}
use Rattle.joining.proofs.beginning.join_with.Goals as goal

pub fill_index-requires : goal.fill_index-requires
fill_index-requires c =
    (c.requires.0.lexicon, refl, index-room c.requires.0)

pub returns-in_err-take_turns : goal.returns-in_err-take_turns
returns-in_err-take_turns c =
    let p = err_from_is_err_and c.from_residual.result c.from_residual.ensures.1 in
    let e = ap (λ r. stepped r c.take_turns.new.join.sizes) c.in_err-take_turns.was in
    rw (p.1, p.2)
    (join-found (join-left c.requires.0 c.begin.ensures c.take_turns.ensures.left) e (search rules) (search rules))

pub returns : goal.returns
returns c =
    join-found (join-left c.requires.0 c.begin.ensures c.take_turns.ensures.left)
    (ap (λ r. stepped r c.take_turns.new.join.sizes) c.in_ok-take_turns.was) (search rules) (search rules)
