-- Demand 3 of what the program prints.
use Rattle.std.specs.Prelude.{◌≡◌, List, ℕ, length}
use Prim.Native.Char.{code}
use Rattle.definitions.specs.declared.Counts.{Counts}
use Rattle.definitions.specs.Lists.{◌!◌}
use Rattle.definitions.specs.Faults.{answered}
use Rattle.definitions.specs.BookLines.{BookLine}
use Rattle.definitions.specs.BookReading.{read_book}
use Rattle.definitions.specs.Program.{program_lent}
use Rattle.definitions.specs.Demand.{Demand3}
use Rattle.definitions.specs.NetworkText.{Leaves}

-- Where what is printed begins with a W, the input is an accepted book, and what is printed is network text:
-- reading it leaves counts and words of which demand 3 holds.
abbrev pub PrintsDemand3 : (input output : List ℕ) → Type 0
PrintsDemand3 input output =
    output ! 0 ≡ code "W"
    → (lines : List BookLine) × (read_book program_lent input ≡ answered lines)
    × (counts : Counts) × (words : List ℕ) × Leaves (length words) output counts words
    × Demand3 lines counts words
