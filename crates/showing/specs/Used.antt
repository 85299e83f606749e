-- The used part of a buffer.
use Rattle.std.specs.Prelude.{if◌then◌else◌, List, [], ◌∷◌, ◌&&◌, ℕ, suc, eqb}

-- how many numbers come before the zeros at the end
unfoldable pub used_of : List ℕ → ℕ
used_of [] = 0
used_of (x ∷ l) = if eqb x 0 && eqb (used_of l) 0 then 0 else suc (used_of l)
