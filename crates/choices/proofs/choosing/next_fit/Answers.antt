-- `choosing::next_fit` meets its contract. The loop's invariant: the leaves before `place` do not fit.
use mathlib.Core.Path.{subst, ◌≡◌, sym, ◌∙◌}
use mathlib.Core.List.{List}
use Prim.Native.Nat.{ℕ, ◌≤◌, ◌+◌, ◌*◌, ◌<◌}
use native.Mathlib.Omega.{arith}
use lib.ListN.{length, take}
use Rattle.definitions.specs.Combinations.{Leaf}
use Rattle.definitions.proofs.Laws.Lists.Searching.{none-start, none-one, none_more, none_found, none-all}
use Rattle.matrix.specs.Shapes.{width_of}
use Rattle.matrix.specs.Laws.Meeting.{met-test}
use Rattle.leafsets.specs.Leaves.{leaves_in}
use Rattle.choices.specs.Choices.{fits_at, FirstFit}
use Rattle.choices.specs.Laws.LeafLists.{leaves-length, leaf-within, leaf-columns, leaf-width}
use Rattle.choices.proofs.choosing.next_fit.Goals as goal
use Rattle.choices.proofs.choosing.next_fit.Goals.{After-meets, In-loop-place}

pub loop-place-init : goal.loop-place-init
loop-place-init c = none-start c.requires.2

abbrev leaves_of : goal.In-loop-place → List Leaf
leaves_of c = leaves_in (width_of c.args.half) c.args.leaves.now

inside : (c : goal.In-loop-place) → c.loop-place.place < length (leaves_of c)
inside c = rw leaves-length c.loop-place-test.true

pub leaf_matrix-requires : goal.leaf_matrix-requires
leaf_matrix-requires c =
    leaf-within (width_of c.args.half) c.args.leaves.now c.loop-place.place (inside (goal.at.leaf_matrix-requires c).In-loop-place)

tested : (c : goal.After-meets)
    → fits_at (take (width_of c.args.half) c.args.m.columns) (leaves_in (width_of c.args.half) c.args.leaves.now)
    c.loop-place.place ≡ c.meets.result
tested c =
    let a = c.args in
    let pre = c.requires in
    let wide = c.wide in
    let width : 2 * wide.result + 1 ≡ width_of a.half = omega (arith, wide.ensures) in
    let words = a.leaves.now in
    let here : c.loop-place.place < length (leaves_in (width_of a.half) words) =
    rw leaves-length c.loop-place-test.true in
    let own =
    c.leaf_matrix.ensures ∙ leaf-columns (width_of a.half) words _ here pre.0 pre.1 in
    sym (met-test a.m.columns _ (leaf-width (width_of a.half) words _ here pre.0) own width
    c.meets.ensures)

pub returns-then-meets : goal.returns-then-meets
returns-then-meets c =
    record {
      first = none_found c.loop-place.invariant (tested (goal.at.returns-then-meets c).After-meets ∙ c.if-meets.true);
      inside = inside (goal.at.returns-then-meets c).In-loop-place;
    }

pub loop-place-preserved : goal.loop-place-preserved
loop-place-preserved c =
    none_more c.loop-place.invariant
    (none-one (inside (goal.at.loop-place-preserved c).In-loop-place) (tested (goal.at.loop-place-preserved c).After-meets ∙ c.if-meets.false))

pub returns : goal.returns
returns c =
    let a = c.args in
    let inv = c.loop-place.invariant in
    let all : List Leaf = leaves_in (width_of a.half) a.leaves.now in
    let over : length all ≤ c.loop-place.place = rw leaves-length c.loop-place-test.false in
    let last : c.loop-place.place ≡ length all = omega (arith, over, inv.within) in
    record {
      first =
          subst (λ (n : ℕ). FirstFit (take (width_of a.half) a.m.columns) all a.from n) last (none-all inv over);
      inside = tt;
    }
