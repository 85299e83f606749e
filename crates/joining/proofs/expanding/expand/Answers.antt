-- `expanding::expand` meets its contract. The loop's invariant: the arcs of the state before `from` are followed.
use Rattle.std.proofs.Common.{◌≡◌, refl, ap, ◌∙◌, arith, rules, ℕ}
use Rattle.std.proofs.lemmas.Result.{err_from_is_err_and}
use Rattle.arcs.specs.Whole.{all_arcs}
use Rattle.arcs.specs.Below.{below}
use Rattle.joined.specs.Joins.{stepped}
use Rattle.joined.specs.Laws.Entering.{joined-few}
use Rattle.moves.specs.declared.Hop.{Hop}
use Rattle.joining.specs.Laws.Expanding.{expand-row, expanding-start, expanding-done}
use Rattle.joining.specs.Laws.Expanding.{expanding-asks, expanding-more, expanding-stop}
use Rattle.joining.proofs.expanding.expand.Goals as goal
use Rattle.joining.proofs.expanding.expand.Goals.{After-arcs_before-from, After-arc_at}

-- where the arcs of the state begin
first_is : (c : goal.After-arcs_before-from)
    → c.arcs_before-from.result ≡ below c.state_at-x.result.state (all_arcs c.args.network.arcs.now)
first_is c =
    c.arcs_before-from.ensures ∙ ap (λ (n : ℕ). below n (all_arcs c.args.network.arcs.now)) c.wide.ensures

-- the arc that is followed
abbrev hop : goal.After-arc_at → Hop
hop c = record { from = c.args.place; arc = c.arc_at.result }

pub state_at-x-requires : goal.state_at-x-requires
state_at-x-requires c = expand-row c.requires

pub wanted-wants-requires : goal.wanted-wants-requires
wanted-wants-requires c = c.requires.turnable.lexicon

pub arcs_before-from-requires : goal.arcs_before-from-requires
arcs_before-from-requires c =
    let pre = c.requires in (pre.turnable.followed.ordered, pre.turnable.started)

pub loop-at-init : goal.loop-at-init
loop-at-init c = (
  expanding-start c.requires c.state_at-x.ensures (first_is (goal.at.loop-at-init c).After-arcs_before-from),
  (refl, refl, refl),
)

pub next_arc-requires : goal.next_arc-requires
next_arc-requires c = c.loop-at.invariant.0.after

pub overflow_cast-hop : goal.overflow_cast-hop
overflow_cast-hop c =
    let few = joined-few c.requires.turnable.underway in
    let listed = c.requires.listed in
    search rules

pub follow-requires : goal.follow-requires
follow-requires c = (
  expanding-asks c.requires c.state_at-x.ensures c.wanted-wants.ensures
      c.loop-at.invariant.0 c.in-Some.ensures (hop (goal.at.follow-requires c).After-arc_at) refl c.arc_at.ensures,
  c.wanted-wants.ensures,
)

pub returns-in_err-follow-clause-left : goal.returns-in_err-follow-clause-left
returns-in_err-follow-clause-left c =
    let p = err_from_is_err_and c.from_residual.result c.from_residual.ensures.1 in
    rw (p.1, p.2)
    (expanding-stop c.requires c.state_at-x.ensures c.wanted-wants.ensures
    c.loop-at.invariant.0 c.in-Some.ensures (hop (goal.at.returns-in_err-follow-clause-left c).After-arc_at) refl c.arc_at.ensures
    c.follow.ensures.left (ap (λ r. stepped r c.follow.new.join.sizes) c.in_err-follow.was))

pub overflow_add-from : goal.overflow_add-from
overflow_add-from c =
    let inside = c.in-Some.ensures.inside in
    let few = c.requires.turnable.followed.few in
    search rules

pub loop-at-smaller : goal.loop-at-smaller
loop-at-smaller c = let found = c.in-Some.ensures in omega (arith, found.inside, found.skipped.up)

pub loop-at-preserved : goal.loop-at-preserved
loop-at-preserved c =
    let same = c.follow.ensures.same in
    let before = c.loop-at.invariant.1 in (
      expanding-more c.requires c.state_at-x.ensures c.wanted-wants.ensures c.loop-at.invariant.0 c.in-Some.ensures
          (hop (goal.at.loop-at-preserved c).After-arc_at) refl c.arc_at.ensures c.follow.ensures.left
          (ap (λ r. stepped r c.follow.new.join.sizes) c.in_ok-follow.was),
      (same.0 ∙ before.0, same.1 ∙ before.1, same.2 ∙ before.2),
    )

pub returns-clause-left : goal.returns-clause-left
returns-clause-left c =
    expanding-done c.requires c.state_at-x.ensures c.wanted-wants.ensures c.loop-at.invariant.0 c.in_default.ensures
