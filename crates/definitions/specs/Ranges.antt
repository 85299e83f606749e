-- Numbers in their ranges, as what functions ask of a header.
use Rattle.std.specs.Prelude.{ℕ, ◌≤◌}
use Rattle.definitions.specs.declared.Header.{Header}
use Rattle.definitions.specs.Forms.{Range, ◌‥◌}

-- a number in a range
pub record Within (range : Range) (n : ℕ) : Type 0 where
  pub low : range.lowest ≤ n
  pub high : n ≤ range.highest

-- the numbers of a header in the ranges of the H line
pub record HeaderRanges (half states phones classes nodes : ℕ) : Type 0 where
  pub half_range : Within (0 ‥ 3) half
  pub states_range : Within (1 ‥ 3) states
  pub phones_range : Within (1 ‥ 64) phones
  pub classes_range : Within (0 ‥ 255) classes
  pub nodes_range : Within (1 ‥ 4096) nodes

-- a header in its ranges
abbrev pub InRange : Header → Type 0
InRange header =
    HeaderRanges header.half header.states header.phones header.classes header.nodes
