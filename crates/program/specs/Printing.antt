-- What stands in the program's output, and the texts that are printed there.
use Rattle.std.specs.Prelude.{◌≡◌, List, [], ℕ, ◌+◌, ◌*◌, length}
use Rattle.definitions.specs.declared.Counts.{Counts}
use Rattle.network.specs.declared.Build.{Build}
use Rattle.network.specs.declared.Build.TheVariants as build
use Rattle.definitions.specs.Lists.{padded}
use Rattle.definitions.specs.Arcs.{arcs_in}
use Rattle.definitions.specs.BookBuilding.{build_book}
use Rattle.definitions.specs.NetworkText.{network_text}
use Rattle.definitions.specs.Program.{program_lent, program_space, program_turns, network_of, printed}

-- the longest network text: a W line and 2000 A lines
abbrev pub output_size : ℕ
output_size = 32 * (1 + 2000)

-- nothing is printed yet
abbrev pub Empty : (output : List ℕ) → Type 0
Empty output = output ≡ padded output_size []

-- a text is printed: it stands in the output, 0 after it, and so many bytes are it
abbrev pub Prints : (text : List ℕ) → (output : List ℕ) → (count : ℕ) → Type 0
Prints text output count = (output ≡ padded output_size text) × (count ≡ length text)

-- the network text of the arcs that words hold
abbrev pub text_in : Counts → (words : List ℕ) → List ℕ
text_in counts words = network_text counts (arcs_in counts.arcs words)

-- what the program prints of a book
abbrev pub book_text : (text : List ℕ) → List ℕ
book_text text = printed (network_of (build_book program_lent program_space program_turns text))

-- the counts of a network that was built, finished or not
abbrev pub counts_told : Build → Counts
counts_told (build.Finished totals) = totals.counts
counts_told (build.Stopped totals) = totals.counts
