-- `places::columns_at` meets its contract: the matrix at a place of a list is there.
use Rattle.std.proofs.Common.{◌≡◌, ◌∙◌, ap, ap₂, arith, ℕ, ◌-◌, ◌≤◌, ◌+◌, length, take, drop}
use Rattle.matrix.specs.Shapes.{width_of}
use Rattle.lists.specs.Held.{start_of}
use Rattle.lists.specs.Laws.Held.{columns-length, place-within}
use Rattle.lists.proofs.places.columns_at.Goals as goal
use Rattle.lists.proofs.places.columns_at.Goals.{Start}

within : (c : goal.Start) → start_of c.args.half c.args.place + width_of c.args.half ≤ length c.args.list.now
within c = place-within c.requires.0.space c.args.place (omega (arith, c.requires.0.few, c.requires.1))

pub slice_bounds-result-end : goal.slice_bounds-result-end
slice_bounds-result-end c = omega (arith, within (goal.at.slice_bounds-result-end c).Start)

pub returns : goal.returns
returns c =
    let a = c.args in
    let size : c.start_of-from.result + c.width_of.result - c.start_of-from.result ≡ width_of a.half = omega arith in
    let columns = ap₂ (λ (n i : ℕ). take n (drop i a.list.now)) size c.start_of-from.ensures in
    record {
      columns = columns;
      width = ap length columns ∙ columns-length a.half a.list.now _ (within (goal.at.returns c).Start);
    }
