-- `transcription::models_of` meets its contract. The loop's invariant: the words before `state` hold the models
-- of their states, the others are as they were; and the questions met for these states were counted.
use mathlib.Core.Path.{◌≡◌, sym, ap, ◌∙◌}
use mathlib.Core.List.{List}
use Prim.Native.Nat.{ℕ, ◌+◌, ◌≤◌, ◌<◌}
use native.Mathlib.Omega.{arith}
use lib.ListN.{length}
use Rattle.definitions.specs.Lists.{up_from, sum_of}
use Rattle.definitions.specs.Transcription.{reached_for, model_of, questions_at}
use Rattle.tables.specs.Usable.{book_with}
use Rattle.transcripts.specs.declared.Found.{Found}
use Rattle.transcripts.specs.Answers.{state_models}
use Rattle.lines.specs.Laws.Filling.{filled_more, filled-end}
use Rattle.transcripts.specs.Laws.Models.{states-length, state-at}
use Rattle.transcripts.specs.Laws.Questions.{states-start, met-few, states-few, state-more}
use Rattle.transcripts.proofs.transcription.models_of.Goals as goal
use Rattle.transcripts.proofs.transcription.models_of.Goals.{After-reached_for-found, In-loop-state, Start}

abbrev target : goal.Start → List ℕ
target c =
    let a = c.args in
    state_models (book_with a.trees.header a.trees.nodes.now a.trees.classes.now a.trees.roots.now)
    a.context.now

as_many : (c : goal.Start) → length (target c) ≡ length c.args.models.now
unfolding book_with
as_many c = states-length _ _ ∙ sym c.requires.1

-- a word for each state
inside : (c : goal.In-loop-state)
    → c.loop-state.state < length c.loop-state.models
inside c =
    omega (arith, c.requires.1, c.loop-state-test.true, c.loop-state.invariant.filled.sized)

-- what was found for the state, and the sum of what was met before
abbrev met : goal.Start → (state : ℕ) → ℕ
met c state =
    let a = c.args in
    (reached_for (book_with a.trees.header a.trees.nodes.now a.trees.classes.now a.trees.roots.now) a.context.now state
    ).questions

few : (c : goal.In-loop-state) → c.loop-state.questions ≤ 12288
few c =
    let a = c.args in
    omega (
      arith,
      states-few a.trees.header a.trees.nodes.now a.trees.classes.now a.trees.roots.now c.args.trees.fit
          a.context.now c.loop-state.state,
      c.loop-state.invariant.summed,
      c.loop-state.invariant.filled.within,
      c.requires.1,
      c.args.trees.fit.ranges.states_range.high,
    )

found-few : (c : goal.After-reached_for-found) → c.reached_for-found.result.questions ≤ 4096
found-few c =
    let a = c.args in
    rw c.reached_for-found.ensures (met-few a.trees.header a.trees.nodes.now a.trees.classes.now a.trees.roots.now c.args.trees.fit
    a.context.now (c.loop-state.state + 1))

pub loop-state-init : goal.loop-state-init
loop-state-init c = states-start _ _ _

pub reached_for-found-requires : goal.reached_for-found-requires
reached_for-found-requires c =
    let p = c.requires in
    (p.0, omega arith, omega (arith, c.loop-state-test.true))

pub bounds-models-wide : goal.bounds-models-wide
bounds-models-wide c = omega (arith, inside (goal.at.bounds-models-wide c).In-loop-state, c.wide.ensures)

pub overflow_add-questions : goal.overflow_add-questions
overflow_add-questions c = omega (arith, few (goal.at.overflow_add-questions c).In-loop-state, found-few (goal.at.overflow_add-questions c).After-reached_for-found)

pub loop-state-preserved : goal.loop-state-preserved
unfolding book_with model_of
loop-state-preserved c =
    let found = c.reached_for-found.ensures in
    rw (c.wide.ensures, c.from-questions.ensures) record {
      filled =
          filled_more (as_many (goal.at.loop-state-preserved c).Start) c.loop-state.invariant.filled (inside (goal.at.loop-state-preserved c).In-loop-state)
          (ap (λ (f : Found). f.model) found ∙ state-at _ _ c.loop-state.state c.loop-state-test.true);
      summed =
          state-more (met (goal.at.loop-state-preserved c).Start) c.loop-state.state _ c.loop-state.invariant.summed _
          (ap (λ (f : Found). f.questions) found);
    }

pub returns : goal.returns
unfolding questions_at book_with
returns c =
    let inv = c.loop-state.invariant in
    let all : c.loop-state.state ≡ c.args.trees.header.states =
    omega (arith, c.requires.1, c.loop-state-test.false, inv.filled.within) in
    record {
      models_are =
          filled-end (as_many (goal.at.returns c).Start) inv.filled
          (omega (arith, c.requires.1, c.loop-state-test.false, inv.filled.sized));
      questions_are = inv.summed ∙ ap (λ (n : ℕ). sum_of (met (goal.at.returns c).Start) (up_from 1 n)) all;
    }
