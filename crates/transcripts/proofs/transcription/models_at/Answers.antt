-- `transcription::models_at` meets its contract: the front of the window holds the context of the place.
use mathlib.Core.Path.{subst, ◌≡◌, ap, sym, ◌∙◌}
use mathlib.Core.List.{List, ◌++◌}
use Prim.Native.Nat.{ℕ, ◌+◌, ◌*◌, ◌≤◌}
use native.Mathlib.Omega.{arith}
use lib.Dec.{T}
use lib.Seq.{length-take-le}
use lib.ListN.{length, take}
use Rattle.definitions.specs.Lookup.{is_context}
use Rattle.definitions.specs.Transcription.{questions_at}
use Rattle.definitions.proofs.Laws.Trees.Contexts.{context_at}
use Rattle.tables.specs.Usable.{book_with}
use Rattle.transcripts.specs.Answers.{state_models}
use Rattle.transcripts.specs.Laws.Models.{context-fits, window-inside, window-taken}
use Rattle.transcripts.proofs.transcription.models_at.Goals as goal
use Rattle.transcripts.proofs.transcription.models_at.Goals.{After-fill_context, After-wide-half, Start}

half-small : (c : goal.After-wide-half) → c.wide-half.result ≤ 3
half-small c = omega (arith, c.args.trees.fit.ranges.half_range.high, c.wide-half.ensures)

-- the front of the window, filled with the context
abbrev filled : goal.After-fill_context → List ℕ
filled c = c.fill_context.new.context

inside : (c : goal.After-fill_context) (rest : List ℕ)
    → 2 * c.wide-half.result + 1 ≤ length (filled c ++ rest)
inside c rest =
    let a = c.args in
    window-inside a.trees.header a.sequence.now a.place c.requires.1
    c.wide-half.result c.wide-half.ensures (filled c) c.fill_context.ensures rest

-- that is the context of the place, as the book has it
taken : (c : goal.After-fill_context) (rest : List ℕ)
    → take (2 * c.wide-half.result + 1) (filled c ++ rest) ≡ context_at c.args.trees.header.half c.args.sequence.now c.args.place
taken c rest =
    let a = c.args in
    window-taken a.trees.header a.sequence.now a.place c.requires.1
    c.wide-half.result c.wide-half.ensures (filled c) c.fill_context.ensures rest

pub slice_bounds-window-end : goal.slice_bounds-window-end
slice_bounds-window-end c = omega (arith, half-small (goal.at.slice_bounds-window-end c).After-wide-half)

pub slice_bounds-fill_context-end : goal.slice_bounds-fill_context-end
slice_bounds-fill_context-end c = sym (length-take-le _ _ (omega (arith, half-small (goal.at.slice_bounds-fill_context-end c).After-wide-half)))

pub fill_context-requires : goal.fill_context-requires
fill_context-requires c =
    let small = half-small (goal.at.fill_context-requires c).After-wide-half in
    (small, c.requires.1, length-take-le _ _ (omega arith))

pub slice_bounds-window-end-2 : goal.slice_bounds-window-end-2
slice_bounds-window-end-2 c = inside (goal.at.slice_bounds-window-end-2 c).After-fill_context _

pub slice_bounds-models_of-end : goal.slice_bounds-models_of-end
slice_bounds-models_of-end c = sym (length-take-le _ _ (inside (goal.at.slice_bounds-models_of-end c).After-fill_context _))

pub models_of-requires : goal.models_of-requires
models_of-requires c =
    let a = c.args in
    let fits = context-fits a.trees.header a.sequence.now a.place
    c.requires.1 c.args.trees.fit.ranges.phones_range.low c.requires.0 in (
      subst (λ (l : List ℕ). T (is_context a.trees.header l)) (sym (taken (goal.at.models_of-requires c).After-fill_context _)) fits,
      c.requires.2,
    )

pub returns : goal.returns
returns c =
    let a = c.args in
    let book = book_with a.trees.header a.trees.nodes.now a.trees.classes.now a.trees.roots.now in
    let given = c.models_of.ensures in
    record {
      models_are = given.models_are ∙ ap (state_models book) (taken (goal.at.returns c).After-fill_context _);
      questions_are = given.questions_are ∙ ap (questions_at book) (taken (goal.at.returns c).After-fill_context _);
    }
