-- Document 01, "Connecting": network text out and in, and what each leaves in its buffer.
use Rattle.std.specs.Prelude.{if◌then◌else◌, ◌≡◌, List, [], ◌∷◌, ◌++◌, Bool, true, ◌&&◌, ℕ, ◌+◌, ◌*◌, leb, ltb, eqb, length}
use Prim.Native.Char.{code}
use Rattle.definitions.specs.declared.Counts.{Counts}
use Rattle.definitions.specs.declared.Fault.TheVariants.{Foreign, Narrow, Short}
use Rattle.definitions.specs.Faults.{Outcome, answered, refused, Test, ◌unless◌, judge}
use Rattle.definitions.specs.Lists.{◌!◌, every, last_passes, concat_map, cleared, padded}
use Rattle.definitions.specs.Lines.{Line, line_text, in_ranges}
use Rattle.definitions.specs.Forms.{form_w, form_a, network_forms}
use Rattle.definitions.specs.Reading.{Kind, read_text}
use Rattle.definitions.specs.ForeignTables.{holds_only}
use Rattle.definitions.specs.Arcs.{Arc, arc, arc_size, arc_words, arcs_in}

-- "`W` with k, metastates, arcs; then one `A` per arc with from, to, model, phone"
pub data NetworkLine : Type 0 where
  W : (states metastates arcs : ℕ) → NetworkLine
  A : Arc → NetworkLine

unfoldable pub network_line : Line → NetworkLine
network_line line =
    let n : List ℕ = line.numbers in
    if eqb (code "W") line.letter then W (n ! 0) (n ! 1) (n ! 2) else
    A (arc (n ! 0) (n ! 1) (n ! 2) (n ! 3))

abbrev pub no_counts : Counts
no_counts = record { states = 0; metastates = 0; arcs = 0 }

unfoldable pub counts_in_line : NetworkLine → Counts
counts_in_line (W states metastates arcs) = record { states = states; metastates = metastates; arcs = arcs }
counts_in_line (A a) = no_counts

unfoldable pub counts_of : List NetworkLine → Counts
counts_of [] = no_counts
counts_of (line ∷ lines) = counts_in_line line

unfoldable pub arc_in_line : NetworkLine → List Arc
arc_in_line (W _ _ _) = []
arc_in_line (A a) = a ∷ []

unfoldable pub arcs_of : List NetworkLine → List Arc
arcs_of lines = concat_map arc_in_line lines

-- "states below 2+k×metastates"
unfoldable pub is_state : Counts → ℕ → Bool
is_state counts state = ltb state (2 + counts.states * counts.metastates)

-- 14 for the letter: a W line first, then A lines
unfoldable pub network_follows : (before : List NetworkLine) → NetworkLine → Bool
network_follows before (W _ _ _) = eqb (length before) 0
network_follows before (A _) = ltb 0 (length before)

-- 13, the W line's counts
unfoldable pub within_counts : Counts → NetworkLine → Bool
within_counts counts (W _ _ _) = true
within_counts counts (A a) = is_state counts a.from && is_state counts a.to

-- 14 for the numbers: "sources never descending"
unfoldable pub network_in_order : (before : List NetworkLine) → NetworkLine → Bool
network_in_order before (W _ _ _) = true
network_in_order before (A a) = last_passes (λ b. leb b.from a.from) (arcs_of before)

-- 20 at line 1, "a table too short for the header": `lent` is the length of the arc table in words
unfoldable pub network_tests : (lent : ℕ) → NetworkLine → List Test
network_tests lent line = Narrow unless leb (arc_size * (counts_in_line line).arcs) lent ∷ []

-- not 17: one A line per arc
unfoldable pub network_complete : List NetworkLine → Bool
network_complete lines = ltb 0 (length lines) && eqb (length (arcs_of lines)) (counts_of lines).arcs

unfoldable pub network_kind : (lent : ℕ) → Kind NetworkLine
network_kind lent =
    record {
      forms = network_forms;
      view = network_line;
      follows = network_follows;
      within_counts = λ before line. within_counts (counts_of before) line;
      in_order = network_in_order;
      further_tests = λ before line. network_tests lent line;
      full = network_complete;
      enough = network_complete;
      after_last = answered;
    }

-- Reading network text into an arc table of so many words: its lines, or the refusal; and what the table
-- then holds.
unfoldable pub read_network : (lent : ℕ) → (text : List ℕ) → Outcome (List NetworkLine)
read_network lent text = read_text (network_kind lent) text

unfoldable pub arcs_left : (lent : ℕ) → Outcome (List NetworkLine) → List ℕ
arcs_left lent (answered lines) = padded lent (concat_map arc_words (arcs_of lines))
arcs_left lent (refused r) = cleared lent

-- 18, "lent .. arcs, with their .. `W` counts, that the readers never leave"
unfoldable pub arc_known : Counts → Arc → Bool
arc_known counts a =
    in_ranges form_a.fields (a.from ∷ a.to ∷ a.model ∷ a.phone ∷ [])
    && is_state counts a.from && is_state counts a.to

unfoldable pub never_descending : List Arc → Bool
never_descending [] = true
never_descending (a ∷ []) = true
never_descending (a ∷ b ∷ arcs) = leb a.from b.from && never_descending (b ∷ arcs)

unfoldable pub network_known : Counts → (words : List ℕ) → Bool
network_known counts words =
    in_ranges form_w.fields (counts.states ∷ counts.metastates ∷ counts.arcs ∷ [])
    && holds_only (arc_size * counts.arcs) words
    && every (arc_known counts) (arcs_in counts.arcs words)
    && never_descending (arcs_in counts.arcs words)

-- Writing network text: 18, then 33.
unfoldable pub line_of_counts : Counts → Line
line_of_counts counts =
    record { letter = code "W"; numbers = counts.states ∷ counts.metastates ∷ counts.arcs ∷ [] }

unfoldable pub line_of_arc : Arc → Line
line_of_arc a = record { letter = code "A"; numbers = arc_words a }

unfoldable pub network_text : Counts → List Arc → List ℕ
network_text counts arcs = line_text (line_of_counts counts) ++ concat_map (λ a. line_text (line_of_arc a)) arcs

-- the text of lent arcs, into a buffer of so many bytes
unfoldable pub write_network : Counts → (words : List ℕ) → (size : ℕ) → Outcome (List ℕ)
write_network counts words size =
    let text : List ℕ = network_text counts (arcs_in counts.arcs words) in
    judge 0
    (Foreign unless network_known counts words
    ∷ Short unless leb (length text) size
    ∷ [])
    (answered text)

-- a text that reading into an arc table of so many words accepts, with these counts, leaving these words
abbrev pub Leaves : (lent : ℕ) → (text : List ℕ) → Counts → (words : List ℕ) → Type 0
Leaves lent text counts words =
    (lines : List NetworkLine) × (read_network lent text ≡ answered lines) × (counts_of lines ≡ counts)
    × (arcs_left lent (read_network lent text) ≡ words)
