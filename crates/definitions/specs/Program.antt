-- Document 01, "A whole example": the build program, from the bytes it reads to the bytes it prints.
use Rattle.std.specs.Prelude.{List, [], ◌∷◌, true, false, ℕ, ◌*◌, ltb, length}
use Prim.Native.Char.{code}
use Rattle.definitions.specs.declared.Refusal.{Refusal}
use Rattle.definitions.specs.declared.Fault.TheVariants.{Long}
use Rattle.definitions.specs.Faults.{Outcome, answered, refused, number_of, and_then}
use Rattle.definitions.specs.Lines.{line_text}
use Rattle.definitions.specs.BookLines.{header_of}
use Rattle.definitions.specs.BookReading.{Lent, node_size}
use Rattle.definitions.specs.Matrices.{most_half}
use Rattle.definitions.specs.Combinations.{combination_size}
use Rattle.definitions.specs.Arcs.{arc_size}
use Rattle.definitions.specs.Metastates.{metastate_size}
use Rattle.definitions.specs.Connecting.{Built}
use Rattle.definitions.specs.Building.{Space, network_in, counts_in}
use Rattle.definitions.specs.BookBuilding.{BookBuilt, build_book}
use Rattle.definitions.specs.NetworkText.{network_text}

-- "with space for 1024 nodes"; every book's classes, roots and plain phones fit
abbrev pub program_lent : Lent
program_lent = record { nodes = node_size * 1024; classes = 255; roots = 64 * 3; plains = 64 }

-- "512 combinations, 512 metastates and 2000 arcs, and a turn limit of 512"; space is lent before the book is
-- read, so its records are those of the greatest half-width
abbrev pub program_space : Space
program_space =
    record {
      combinations = combination_size most_half * 512;
      metastates = metastate_size most_half * 512;
      arcs = arc_size * 2000;
    }

abbrev pub program_turns : ℕ
program_turns = 512

unfoldable pub text_of_built : (states : ℕ) → Built → List ℕ
text_of_built states built = network_text (counts_in states (network_in built)) (network_in built).arcs

-- the network's text, or the refusal of reading or building
unfoldable pub network_of : Outcome BookBuilt → Outcome (List ℕ)
network_of outcome =
    and_then outcome (λ b. answered (text_of_built (header_of b.lines).states b.built))

-- "one line `X` with number and line in its first two fields"
unfoldable pub refusal_text : Refusal → List ℕ
refusal_text r = line_text (record { letter = code "X"; numbers = number_of r.fault ∷ r.line ∷ [] })

unfoldable pub printed : Outcome (List ℕ) → List ℕ
printed (answered text) = text
printed (refused r) = refusal_text r

-- "the program's input exceeds 65536 bytes": "22 has line 0 and comes before all others"
unfoldable pub program : (input : List ℕ) → List ℕ
program input =
    printed
    (elim (ltb 65536 (length input)) [
      | true ↦ refused (record { fault = Long; line = 0 })
      | false ↦ network_of (build_book program_lent program_space program_turns input)
    ])
