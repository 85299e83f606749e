-- `expanding::own_arcs` meets its contract. The loop's invariant: the arcs up to the one into `state`.
use mathlib.Core.Path.{◌≡◌}
use mathlib.Core.List.{List, []}
use Prim.Native.Nat.{ℕ, ◌+◌, ◌*◌, ◌≤◌, ◌<◌}
use native.Mathlib.Omega.{arith}
use Rattle.definitions.specs.declared.Header.{Header}
use Rattle.definitions.specs.Ranges.{InRange}
use Rattle.definitions.proofs.Laws.Books.AcceptedKnown.{header-ranges}
use Rattle.index.specs.Laws.RecordWords.{has-leaf}
use Rattle.metastates.specs.Underway.{Placed}
use Rattle.metastates.specs.Laws.States.{states-few}
use Rattle.turns.specs.Laws.OwnArcs.{own-none, own-count, own-more, own-are}
use Rattle.turns.proofs.expanding.own_arcs.Goals as goal
use Rattle.turns.proofs.expanding.own_arcs.Goals.{After-model_of-model}

-- the numbers of the header are in range
ranges : {header : Header} {nodes combinations : List ℕ} {number place : ℕ}
    → Placed header nodes combinations number place → InRange header
ranges {header} p = header-ranges header p.connectable.usable.header-known

-- the states before the metastate's first
few : {header : Header} {nodes combinations : List ℕ} {number place wide : ℕ}
    → Placed header nodes combinations number place → wide ≡ header.states → place * wide ≤ 196605
few {header} {place = place} p e =
    states-few header p.connectable.usable.header-known e place (omega (arith, p.few))

pub overflow_mul-first : goal.overflow_mul-first
overflow_mul-first c = omega (arith, few c.requires c.wide-states.ensures)

pub overflow_add-first : goal.overflow_add-first
overflow_add-first c = omega (arith, few c.requires c.wide-states.ensures)

pub loop-state-init : goal.loop-state-init
loop-state-init c =
    let some = (ranges c.requires).states_range.low in
    own-none _ _ c.wide-states.result (omega (arith, c.wide-states.ensures, some)) _

pub model_of-model-requires : goal.model_of-model-requires
model_of-model-requires c =
    let p = c.requires in
    let a = c.args in
    let here : c.loop-state.state < a.rules.header.states =
    omega (arith, c.loop-state-test.true, c.wide-states.ensures) in
    has-leaf a.rules.header a.rules.combinations.now p.connectable.usable a.number p.listed
    a.rules.nodes.now
    p.connectable.modelled c.loop-state.state here

-- the state that an arc leads to
fits : (c : goal.After-model_of-model)
    → 2 + c.args.place * c.wide-states.result
    + c.loop-state.state < 4294967296
fits c =
    omega (
      arith,
      few c.requires c.wide-states.ensures,
      c.wide-states.ensures,
      c.loop-state-test.true,
      (ranges c.requires).states_range.high,
    )

pub overflow_add-first-in-loop-state : goal.overflow_add-first-in-loop-state
overflow_add-first-in-loop-state c = omega (arith, fits (goal.at.overflow_add-first-in-loop-state c).After-model_of-model)

pub overflow_sub-first : goal.overflow_sub-first
overflow_sub-first c = omega arith

pub overflow_add-first-in-loop-state-2 : goal.overflow_add-first-in-loop-state-2
overflow_add-first-in-loop-state-2 c = omega (arith, fits (goal.at.overflow_add-first-in-loop-state-2 c).After-model_of-model)

pub with_arc-new-requires : goal.with_arc-new-requires
with_arc-new-requires c =
    let few-arcs : c.loop-state.new.count < 3 =
    omega (
      arith,
      own-count _ _ _ c.loop-state.invariant,
      c.wide-states.ensures,
      c.loop-state-test.true,
      (ranges c.requires).states_range.high,
    ) in
    record { few = few-arcs; from_word = omega (arith, fits (goal.at.with_arc-new-requires c).After-model_of-model); to_word = fits (goal.at.with_arc-new-requires c).After-model_of-model }

pub loop-state-preserved : goal.loop-state-preserved
loop-state-preserved c =
    own-more _ _ _ c.loop-state.invariant c.loop-state-test.true c.model_of-model.ensures
    c.with_arc-new.ensures

pub returns : goal.returns
returns c =
    own-are (record { number = c.args.number; carried = [] }) c.requires
    c.wide-states.ensures c.loop-state.invariant c.loop-state-test.false
