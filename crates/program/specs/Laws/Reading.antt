-- A law about what is read: a buffer with room for one byte more than a book may have takes in enough of every
-- input. The proof of the function that runs the program uses it.
use Rattle.std.specs.Prelude.{◌≡◌, List, ℕ, length, take}
use Rattle.std.proofs.Common.{ap, ◌∙◌}
use Rattle.definitions.specs.Program.{program}
use Rattle.definitions.proofs.Laws.Networks.Program.{program-read}
use Rattle.program.specs.Printing.{Prints}
use Rattle.program.specs.Reading.{PrintsInput}
use Rattle.program.specs.Laws.Printing.{prints-same}

pub prints-input : (buffer : List ℕ) (read : ℕ) (output : List ℕ) (count : ℕ) → length buffer ≡ 65537
    → Prints (program (take read buffer)) output count → PrintsInput buffer read output count
prints-input buffer read output count room printed input h =
    let first : take read buffer ≡ take 65537 input = rw room at h in
    prints-same (program (take read buffer)) (program input) output count (ap program first ∙ program-read input)
    printed
