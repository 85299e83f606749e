-- `choosing::add_choice` meets its contract: without room nothing is written. Its matrix is valid, as the choice asks.
use mathlib.Core.Path.{◌≡◌, ap, ◌∙◌, subst}
use mathlib.Core.List.{List, ◌∷◌, ◌++◌}
use Prim.Native.Nat.{ℕ, ◌+◌, ◌-◌, ◌*◌, ◌≤◌, ◌<◌}
use native.Mathlib.Omega.{arith}
use lib.Dec.{T}
use lib.ListN.{length, take, drop, length-take, length-drop}
use Rattle.definitions.specs.Matrices.{valid}
use Rattle.definitions.specs.Combinations.{combination_room}
use Rattle.definitions.proofs.Laws.Lists.Tests.{failed}
use Rattle.definitions.proofs.Laws.Matrices.Sizes.{words-few}
use Rattle.matrix.specs.Shapes.{width_of}
use Rattle.choices.specs.Laws.Adding.{added_none, added-within, added-put}
use Rattle.std.proofs.lemmas.Bool.{not_from_false}
use borrow.Author.Rules.{rules}
use Rattle.choices.proofs.choosing.add_choice.Goals as goal
use Rattle.choices.proofs.choosing.add_choice.Goals.{After-combination_size-size, Start}

three : (c : goal.Start) → length c.args.choice.leaves ≡ 3
three c = search rules

seven : (c : goal.Start) → length c.args.choice.matrix.columns ≡ 7
seven c = search rules

-- there is room
roomy : (c : goal.After-combination_size-size)
    → c.args.count < combination_room c.args.half (length c.args.space.now)
roomy c = omega (arith, c.if-room_in-count.false, c.room_in.ensures)

within : (c : goal.After-combination_size-size)
    → c.combination_size-size.result * c.args.count + c.combination_size-size.result
    ≤ length c.args.space.now
within c =
    added-within c.requires.0 c.args.choice c.combination_size-size.ensures (roomy c)

few : (c : goal.After-combination_size-size) → c.combination_size-size.result ≤ 11
few c =
    let half = c.args.half in
    omega (arith, c.combination_size-size.ensures, words-few half (omega (arith, c.requires.1.narrow)))

pub returns-then-not-valid : goal.returns-then-not-valid
returns-then-not-valid c =
    let columns = c.args.choice.matrix.columns in
    let width : width_of c.args.half ≡ 2 * c.wide.result + 1 =
    omega (arith, c.wide.ensures) in
    absurd (subst T
    (ap (λ (k : ℕ). valid (take k columns)) width ∙ failed c.valid.ensures (not_from_false _ c.if-not-valid.true))
    c.requires.1.holds)

pub returns-then-room_in-count : goal.returns-then-room_in-count
returns-then-room_in-count c =
    added_none c.requires.0 c.args.choice (omega (arith, c.if-room_in-count.true, c.room_in.ensures))

pub overflow_mul-at : goal.overflow_mul-at
overflow_mul-at c = let inside = within (goal.at.overflow_mul-at c).After-combination_size-size in search rules

pub overflow_add-at : goal.overflow_add-at
overflow_add-at c = let inside = within (goal.at.overflow_add-at c).After-combination_size-size in search rules

pub offset_bounds-space-at : goal.offset_bounds-space-at
offset_bounds-space-at c = let inside = within (goal.at.offset_bounds-space-at c).After-combination_size-size in search rules

pub slice_bounds-put_choice-end : goal.slice_bounds-put_choice-end
slice_bounds-put_choice-end c = within (goal.at.slice_bounds-put_choice-end c).After-combination_size-size

pub put_choice-requires : goal.put_choice-requires
put_choice-requires c =
    let own = (goal.at.put_choice-requires c).After-combination_size-size in
    let long : length (take (c.combination_size-size.result * c.args.count + c.combination_size-size.result
    - c.combination_size-size.result * c.args.count) (drop (c.combination_size-size.result * c.args.count) c.args.space.now))
    ≡ c.combination_size-size.result = simp (length-take, length-drop) (omega (arith, within own)) in
    (omega (arith, long, c.combination_size-size.ensures), omega (arith, long, few own))

pub returns : goal.returns
returns c =
    let choice = c.args.choice in
    let size : ℕ = c.combination_size-size.result in
    let at : ℕ = size * c.args.count in
    let row : List ℕ = choice.phone ∷ (choice.leaves ++ choice.matrix.columns) in
    let long : length (take (at + size - at) (drop at c.args.space.now)) ≡ size =
    simp (length-take, length-drop) (omega (arith, within (goal.at.returns c).After-combination_size-size)) in
    added-put c.requires.0 choice c.requires.1 (three (goal.at.returns c).Start) (seven (goal.at.returns c).Start) (roomy (goal.at.returns c).After-combination_size-size)
    c.combination_size-size.ensures
    (c.put_choice.ensures ∙ ap (λ (k : ℕ). take k row) long)
