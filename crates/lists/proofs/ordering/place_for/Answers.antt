-- `ordering::place_for` meets its contract. The loop's invariant: the matrix belongs after those before
-- `place`.
use Rattle.std.proofs.Common.{◌≡◌, ◌∙◌, ap₂, arith, ℕ, ◌<◌, length, take, nat_cmp}
use Rattle.std.specs.Cmp.Lexicographic.{slice_cmp}
use Rattle.definitions.specs.Matrices.{Matrix}
use Rattle.matrix.specs.Shapes.{matrix_in}
use Rattle.lists.specs.Held.{list_in, matrix_at}
use Rattle.lists.specs.Laws.Held.{list_at, list_length}
use Rattle.lists.specs.Laws.Ordering.{place-start, place-more, place_here, place_known, place_end}
use Rattle.lists.proofs.ordering.place_for.Goals as goal
use Rattle.lists.proofs.ordering.place_for.Goals.{After-cmp}

pub loop-place-init : goal.loop-place-init
loop-place-init c = place-start _ _

-- a turn's matrix, and how the new one stands to it
module _ (c : goal.After-cmp) where
  inside : c.loop-place.place < length (list_in c.args.half c.args.list.now)
  inside = omega (arith, list_length c.args.half c.args.list.now, c.matrices_in-count.ensures)

  told : c.cmp.result
      ≡ slice_cmp nat_cmp (matrix_in c.args.half c.args.m.columns) (matrix_at c.args.half c.args.list.now c.loop-place.place)
  told =
      c.cmp.ensures
      ∙ ap₂ (λ (n : ℕ) (x : Matrix). slice_cmp nat_cmp (take n c.args.m.columns) x) c.width_of.ensures.0
      c.columns_at.ensures.columns

pub returns-in-Less : goal.returns-in-Less
returns-in-Less c =
    let at = (goal.at.returns-in-Less c).After-cmp in
    place_here c.loop-place.invariant (inside at) _ (list_at _ _ _ (omega arith)) (told at) c.in-Less.is

pub returns-in-Equal : goal.returns-in-Equal
returns-in-Equal c =
    let at = (goal.at.returns-in-Equal c).After-cmp in
    place_known c.loop-place.invariant (inside at) _ (list_at _ _ _ (omega arith)) (told at) c.in-Equal.is

pub loop-place-preserved : goal.loop-place-preserved
loop-place-preserved c =
    let at = (goal.at.loop-place-preserved c).After-cmp in
    place-more c.loop-place.invariant (inside at) _ (list_at _ _ _ (omega arith)) (told at) c.in-Greater.is

pub returns : goal.returns
returns c =
    let counted = list_length c.args.half c.args.list.now in
    let all : c.loop-place.place ≡ c.matrices_in-count.result = omega arith in
    rw (← all) (place_end c.loop-place.invariant (omega arith))
