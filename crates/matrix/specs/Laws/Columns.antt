-- Laws about the columns of a matrix: one cut by a set, and the tests of the first columns in their
-- order.
use Rattle.std.specs.Prelude.{◌≡◌, refl, List, [], ◌∷◌, Bool, ◌&&◌, not, ℕ, ◌-◌, ◌^◌, ◌<◌, eqb, set}
use Rattle.std.proofs.Math.Path.{sym}
use Rattle.std.proofs.Common.{ap, ◌∙◌}
use Rattle.std.specs.Int.Bits.{bit_and}
use Rattle.std.specs.List.{list_all}
use Rattle.definitions.specs.Lists.{◌!◌, every}
use Rattle.definitions.specs.Matrices.{Matrix, no_side}
use Rattle.definitions.proofs.Laws.Matrices.PhoneSets.{without-is-mask}
use Rattle.definitions.proofs.Laws.Matrices.Matrices.{no-set}

-- ---- one column cut by what is not in a set

module _ (position s : ℕ) (m : Matrix) where
  pub no_cut : m ! position < 2 ^ 64 → s < 2 ^ 64
      → set m position (bit_and (m ! position) (18446744073709551615 - s)) ≡ no_side position s m
  no_cut h k =
      ap (λ (x : ℕ). set m position x) (sym (without-is-mask 64 (m ! position) s h k)) ∙ sym (no-set position s m)

-- ---- tests of the first columns

-- no column is empty
abbrev pub some_member : ℕ → Bool
some_member column = not (eqb column 0)
