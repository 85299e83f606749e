-- `transcription::all_models` meets its contract. The loop's invariant: the buffer begins with the models of
-- the places before `place`, the other words are as they were; and the questions put for these places were summed.
use mathlib.Core.Path.{◌∙◌}
use Prim.Native.Nat.{ℕ, ◌+◌, ◌-◌, ◌*◌, ◌≤◌}
use native.Mathlib.Omega.{arith}
use lib.ListN.{length}
use Rattle.definitions.specs.Tables.{Book}
use Rattle.definitions.proofs.Laws.Trees.Contexts.{context_at}
use Rattle.definitions.proofs.Laws.Trees.Utterances.{utterance-few, utterance-phones}
use Rattle.tables.specs.Usable.{book_with}
use Rattle.transcripts.specs.Laws.Models.{room, placed-more, placed_end}
use Rattle.transcripts.specs.Laws.Questions.{places-start, place_few, sum-few, sum-next, sum-end}
use Rattle.transcripts.proofs.transcription.all_models.Goals as goal
use Rattle.transcripts.proofs.transcription.all_models.Goals.{In-loop-place, Start}

abbrev book : goal.Start → Book
book c =
    let a = c.args in
    book_with a.trees.header a.trees.nodes.now a.trees.classes.now a.trees.roots.now

-- the room of the place
fits : (c : goal.In-loop-place)
    → c.loop-place.place * c.wide-states.result + c.wide-states.result
    ≤ length c.args.models.now
unfolding book_with
fits c =
    let a = c.args in
    room (book_with a.trees.header a.trees.nodes.now a.trees.classes.now a.trees.roots.now) a.sequence.now a.models.now c.requires.1 _ _
    c.loop-place-test.true c.wide-states.ensures

pub loop-place-init : goal.loop-place-init
loop-place-init c = places-start _ _ _

pub overflow_mul-from : goal.overflow_mul-from
overflow_mul-from c = omega (arith, fits (goal.at.overflow_mul-from c).In-loop-place)

pub overflow_add-end : goal.overflow_add-end
overflow_add-end c = omega (arith, fits (goal.at.overflow_add-end c).In-loop-place)

pub slice_bounds-models_at-count : goal.slice_bounds-models_at-count
slice_bounds-models_at-count c = omega arith

pub slice_bounds-models_at-start : goal.slice_bounds-models_at-start
slice_bounds-models_at-start c = omega arith

pub slice_bounds-models_at-end : goal.slice_bounds-models_at-end
slice_bounds-models_at-end c = omega (arith, fits (goal.at.slice_bounds-models_at-end c).In-loop-place, c.loop-place.invariant.placed.sized)

pub models_at-questions-requires : goal.models_at-questions-requires
models_at-questions-requires c =
    let p = c.requires in (
      utterance-phones _ _ p.0,
      c.loop-place-test.true,
      omega (arith, c.wide-states.ensures),
    )

pub overflow_add-questions : goal.overflow_add-questions
unfolding book_with
overflow_add-questions c =
    let a = c.args in
    let few = sum-few a.trees.header a.trees.nodes.now a.trees.classes.now a.trees.roots.now c.args.trees.fit a.sequence.now
    c.loop-place.place c.loop-place.invariant.placed.within in
    let more = place_few a.trees.header a.trees.nodes.now a.trees.classes.now a.trees.roots.now c.args.trees.fit
    (context_at a.trees.header.half a.sequence.now c.loop-place.place) in
    omega (
      arith,
      few,
      more,
      c.loop-place.invariant.summed,
      c.models_at-questions.ensures.questions_are,
      c.loop-place.invariant.placed.within,
      utterance-few _ _ c.requires.0,
    )

pub loop-place-preserved : goal.loop-place-preserved
unfolding book_with
loop-place-preserved c =
    let a = c.args in
    let k : ℕ = c.wide-states.result in
    let i : ℕ = c.loop-place.place in
    let inv = c.loop-place.invariant in
    let given = c.models_at-questions.ensures in
    record {
      placed =
          placed-more (book (goal.at.loop-place-preserved c).Start) a.sequence.now a.models.now c.loop-place.models i
          inv.placed c.requires.1 c.loop-place-test.true k (i * k + k - i * k)
          c.wide-states.ensures (omega arith) _ given.models_are;
      summed =
          sum-next (book (goal.at.loop-place-preserved c).Start) a.sequence.now i c.loop-place-test.true _ inv.summed _
          given.questions_are;
    }

pub returns : goal.returns
unfolding book_with
returns c =
    let inv = c.loop-place.invariant in
    record {
      models_are = placed_end _ _ _ _ _ inv.placed c.loop-place-test.false;
      questions_are = inv.summed ∙ sum-end _ _ _ inv.placed.within c.loop-place-test.false;
    }
