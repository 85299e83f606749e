-- `joining::join` meets its contract: what was cleared before holds the join or is cleared again.
use Rattle.std.proofs.Common.{rules, ◌≡◌, sym, length}
use Rattle.definitions.specs.Lists.{cleared}
use Rattle.joining.specs.Laws.Answering.{cleared_both, join-answer, join-left, join-paths, none-left, no-paths}
use Rattle.joining.proofs.joining.join.Goals as goal
use Rattle.joining.proofs.joining.join.Goals.{After-fill-2}

-- the space as it was cleared
module _ (c : goal.After-fill-2) where
  states₀ : c.fill.new.self ≡ cleared (length c.args.states.now)
  states₀ = search rules

  joined₀ : c.fill-2.new.self ≡ cleared (length c.args.joined.now)
  joined₀ = search rules

pub join_cleared-answer-requires : goal.join_cleared-answer-requires
join_cleared-answer-requires c =
    let a = c.args in
    let at = (goal.at.join_cleared-answer-requires c).After-fill-2 in
    cleared_both a.counts a.arcs.now a.count a.words.now a.states.now a.joined.now (states₀ at) (joined₀ at)

pub returns-then-is_err : goal.returns-then-is_err
returns-then-is_err c =
    let a = c.args in
    let at = (goal.at.returns-then-is_err c).After-fill-2 in
    let told = c.join_cleared-answer.ensures in
    let k = sym c.if-is_err.ensures.value in
    let states : c.fill-then-is_err.new.self ≡ cleared (length c.join_cleared-answer.new.states) = search rules in
    let joined : c.fill-then-is_err-2.new.self ≡ cleared (length c.join_cleared-answer.new.joined) = search rules in
    let left = none-left a.counts a.arcs.now a.count a.words.now a.states.now a.joined.now (states₀ at) (joined₀ at)
    told.answer told.left k states joined in
    record {
      answer = join-answer a.counts a.arcs.now a.count a.words.now a.states.now a.joined.now (states₀ at) (joined₀ at)
          told.answer told.left;
      states = left.0;
      joined = left.1;
      paths = no-paths a.counts a.arcs.now a.count a.words.now a.states.now a.joined.now (states₀ at) (joined₀ at)
          told.answer told.left k _;
    }

pub returns-else-is_err : goal.returns-else-is_err
returns-else-is_err c =
    let a = c.args in
    let at = (goal.at.returns-else-is_err c).After-fill-2 in
    let told = c.join_cleared-answer.ensures in
    let k = sym c.if-is_err.ensures.value in
    let left = join-left a.counts a.arcs.now a.count a.words.now a.states.now a.joined.now (states₀ at) (joined₀ at)
    told.answer told.left k in
    record {
      answer = join-answer a.counts a.arcs.now a.count a.words.now a.states.now a.joined.now (states₀ at) (joined₀ at)
          told.answer told.left;
      states = left.0;
      joined = left.1;
      paths = join-paths a.counts a.arcs.now a.count a.words.now a.states.now a.joined.now (states₀ at) (joined₀ at)
          told.answer told.left k;
    }
