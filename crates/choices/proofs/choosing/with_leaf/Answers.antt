-- `choosing::with_leaf` meets its contract: the leaf fits, so the matrix that is met is the meet.
use mathlib.Core.Path.{◌≡◌, refl, ap, ◌∙◌}
use Prim.Native.Nat.{◌+◌, ◌*◌, ◌≤◌}
use native.Mathlib.Omega.{arith}
use lib.ListN.{length, set}
use Rattle.matrix.specs.Shapes.{width_of}
use Rattle.matrix.specs.Laws.Meeting.{met-whole}
use Rattle.leafsets.specs.Leaves.{leaf_size}
use Rattle.choices.specs.Laws.LeafLists.{leaf-within, leaf-node, leaf-width, leaf-columns}
use borrow.Author.Rules.{rules}
use Rattle.choices.proofs.choosing.with_leaf.Goals as goal
use Rattle.choices.proofs.choosing.with_leaf.Goals.{Start}

-- the record is in the list
within : (c : goal.Start) → leaf_size * c.args.place + leaf_size ≤ length c.args.leaves.now
within c = leaf-within (width_of c.args.half) c.args.leaves.now c.args.place c.requires.inside

pub overflow_mul-nodes : goal.overflow_mul-nodes
overflow_mul-nodes c = let listed = within (goal.at.overflow_mul-nodes c).Start in search rules

pub offset_bounds-leaves-place : goal.offset_bounds-leaves-place
offset_bounds-leaves-place c = let listed = within (goal.at.offset_bounds-leaves-place c).Start in search rules

pub bounds-leaves-place : goal.bounds-leaves-place
bounds-leaves-place c = let listed = within (goal.at.bounds-leaves-place c).Start in search rules

pub leaf_matrix-requires : goal.leaf_matrix-requires
leaf_matrix-requires c = within (goal.at.leaf_matrix-requires c).Start

pub returns : goal.returns
returns c =
    let a = c.args in
    let pre = c.requires in
    let words = a.leaves.now in
    let width = width_of a.half in
    let columns : 2 * c.wide.result + 1 ≡ width = omega (arith, c.wide.ensures) in
    let own =
    c.leaf_matrix.ensures
    ∙ leaf-columns width words a.place pre.inside pre.chosen.narrow pre.is in
    let size = leaf-width width words a.place pre.inside pre.chosen.narrow in (
      refl,
      refl,
      ap (set a.choice.leaves a.choice.taken) (leaf-node width words a.place pre.inside),
      met-whole a.choice.matrix.columns _ size own columns pre.fits c.meet-met.ensures.matrix,
    )
