-- `adding::add_metastate` meets its contract: its words stand in their part, and it is linked.
use mathlib.Core.Path.{◌≡◌, refl, ap, ◌∙◌}
use mathlib.Core.List.{List, ◌∷◌, ◌++◌}
use Prim.Native.Nat.{ℕ, ◌+◌, ◌-◌, ◌*◌, ◌≤◌}
use native.Mathlib.Omega.{arith}
use lib.ListN.{length, take, drop}
use Rattle.definitions.proofs.Laws.Matrices.Sizes.{words-few}
use Rattle.lines.specs.Laws.Putting.{part_length, part-put}
use Rattle.matrix.specs.Laws.Words.{overwritten-all}
use Rattle.index.specs.Laws.CutRecords.{cut-within}
use Rattle.growing.specs.Chains.{heads_in, linked_to}
use borrow.Author.Rules.{rules}
use Rattle.metastates.proofs.adding.add_metastate.Goals as goal
use Rattle.metastates.proofs.adding.add_metastate.Goals.{After-metastate_size-size, Start}

seven : (c : goal.Start) → length c.args.follower.met.columns ≡ 7
seven c = search rules

within : (c : goal.After-metastate_size-size)
    → c.metastate_size-size.result * c.args.place + c.metastate_size-size.result
    ≤ length c.args.metastates.now
within c =
    cut-within c.metastate_size-size.ensures c.args.metastates.now c.args.place c.requires.within

pub overflow_mul-at : goal.overflow_mul-at
overflow_mul-at c = let inside = within (goal.at.overflow_mul-at c).After-metastate_size-size in search rules

pub overflow_add-at : goal.overflow_add-at
overflow_add-at c = let inside = within (goal.at.overflow_add-at c).After-metastate_size-size in search rules

pub offset_bounds-metastates-at : goal.offset_bounds-metastates-at
offset_bounds-metastates-at c = let inside = within (goal.at.offset_bounds-metastates-at c).After-metastate_size-size in search rules

pub slice_bounds-put_numbered-end : goal.slice_bounds-put_numbered-end
slice_bounds-put_numbered-end c = within (goal.at.slice_bounds-put_numbered-end c).After-metastate_size-size

pub link-requires : goal.link-requires
link-requires c =
    (c.requires.link, omega (arith, c.requires.few))

pub returns : goal.returns
returns c =
    let a = c.args in
    let size : ℕ = c.metastate_size-size.result in
    let from : ℕ = size * a.place in
    let words = a.metastates.now in
    let row : List ℕ = a.follower.number ∷ a.follower.met.columns in
    let long : length (take (from + size - from) (drop from words)) ≡ size =
    part_length words from size refl (within (goal.at.returns c).After-metastate_size-size) in
    let few : size ≤ length row =
    omega (arith, seven (goal.at.returns c).Start, c.metastate_size-size.ensures, words-few _ c.requires.narrow) in
    record {
      put =
          part-put words _ _ from size refl (c.put_numbered.ensures ∙ overwritten-all _ row long few)
          ∙ ap (λ (n : ℕ). take (n * a.place) words ++ take n row ++ drop (n * a.place + n) words)
          c.metastate_size-size.ensures;
      linked =
          c.link.ensures
          ∙ ap (λ (k : ℕ). linked_to (heads_in a.chains.now) a.chains.now a.place k)
          c.key_of.ensures.0;
    }
