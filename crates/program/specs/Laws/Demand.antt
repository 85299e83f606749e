-- Demand 3 of what the program prints: a text that begins with a W is that of a build, which is finished, since
-- the program's turns suffice; demand 3 holds of its counts and words, and its text read again gives them back.
use Rattle.std.specs.Prelude.{◌≡◌, refl, List, ℕ, ltb, length}
use Rattle.std.proofs.Common.{sym, ◌∙◌, arith, ltb-true, ltb-false}
use Rattle.std.proofs.Math.Path.{subst}
use Prim.Native.Char.{code}
use Rattle.std.proofs.Math.ListN.{take}
use Rattle.std.proofs.Math.Seq.{take-append_seam}
use Rattle.definitions.specs.declared.Counts.{Counts}
use Rattle.definitions.specs.declared.Header.{Header}
use Rattle.definitions.specs.declared.Refusal.{Refusal}
use Rattle.definitions.specs.Lists.{◌!◌, padded}
use Rattle.definitions.specs.Faults.{Outcome, answered, refused, and_then}
use Rattle.definitions.specs.BookLines.{BookLine, header_of}
use Rattle.definitions.specs.BookReading.{read_book}
use Rattle.definitions.specs.Tables.{Tables, tables_left, tables_book}
use Rattle.definitions.specs.Growing.{finished, stopped, grown_in}
use Rattle.definitions.specs.Connecting.{Built}
use Rattle.definitions.specs.Building.{build, counts_in, buffers_left}
use Rattle.definitions.specs.BookBuilding.{BookBuilt, build_read, build_book}
use Rattle.definitions.specs.Program.{program_lent, program_space, program_turns, text_of_built, network_of}
use Rattle.definitions.specs.Program.{refusal_text, printed, program}
use Rattle.definitions.proofs.Laws.Lists.Tests.{by-test}
use Rattle.definitions.proofs.Laws.Text.Judging.{and_then-answered}
use Rattle.definitions.proofs.Laws.Text.Lines.{line-letter}
use Rattle.definitions.proofs.Laws.Networks.Program.{program-long, program-short}
use Rattle.definitions.proofs.Construction.Turns.{program-never-stopped}
use Rattle.definitions.specs.Demand.{Demand3}
use Rattle.definitions.proofs.Demand.Demand.{demand3}
use Rattle.program.specs.Laws.RoundTrips.{built-read}
use Rattle.program.specs.Printing.{Prints}
use Rattle.program.specs.Demand.{PrintsDemand3}

-- the line of a refusal begins with an X
refusal-begins : (r : Refusal) → refusal_text r ! 0 ≡ code "W" → ⊥
unfolding refusal_text
refusal-begins r w =
    let x : ◌≡◌ {A = ℕ} (code "X") (code "W") = sym (line-letter _) ∙ w in
    omega (arith, x)

-- the words in the arc space after the program's build
abbrev arcs_left_from : Header → Tables → List ℕ
arcs_left_from header tables =
    (buffers_left (tables_book header tables) program_space (build header tables program_space program_turns)).arcs

module _ (input : List ℕ) where
  -- an accepted book whose build is finished
  built-demand : (lines : List BookLine) → read_book program_lent input ≡ answered lines
      → (built : Built)
      → build (header_of lines) (tables_left program_lent (answered lines)) program_space program_turns
      ≡ answered built
      → PrintsDemand3 input (text_of_built (header_of lines).states built)
  unfolding text_of_built grown_in
  built-demand lines accepted (stopped turns net) builds w =
      absurd (program-never-stopped (header_of lines) (tables_left program_lent (answered lines)) turns net builds)
  built-demand lines accepted (finished turns net) builds w =
      let header : Header = header_of lines in
      let tables : Tables = tables_left program_lent (answered lines) in
      let counts : Counts = counts_in header.states net in
      let holds = demand3 program_lent input lines program_space program_turns accepted turns net
      (rw accepted builds) in (
        lines,
        accepted,
        counts,
        arcs_left_from header tables,
        built-read header tables program_space program_turns (finished turns net) builds,
        subst (λ (o : Outcome (List BookLine)). Demand3 lines counts (arcs_left_from header (tables_left program_lent o)))
            accepted holds,
      )

  book-demand : (b : BookBuilt) → build_book program_lent program_space program_turns input ≡ answered b
      → PrintsDemand3 input (text_of_built (header_of b.lines).states b.built)
  unfolding build_book build_read
  book-demand b e =
      let (lines, accepted, rest) =
      and_then-answered (read_book program_lent input) (build_read program_lent program_space program_turns) b e in
      let tables = tables_left program_lent (answered lines) in
      let (built, builds, same) =
      and_then-answered (build (header_of lines) tables program_space program_turns) _ b rest in
      let whole : record { lines = lines; built = built } ≡ b = cc in
      subst (λ (b : BookBuilt). PrintsDemand3 input (text_of_built (header_of b.lines).states b.built)) whole
      (built-demand lines accepted built builds)

  printed-demand : (o : Outcome BookBuilt) → build_book program_lent program_space program_turns input ≡ o
      → PrintsDemand3 input (printed (network_of o))
  unfolding network_of and_then printed
  printed-demand (answered b) e = book-demand b e
  printed-demand (refused r) e = λ w. absurd (refusal-begins r w)

  program-demand : PrintsDemand3 input (program input)
  program-demand =
      by-test (ltb 65536 (length input))
      (λ e. rw (program-long input (ltb-true 65536 (length input) e))
      (λ w. absurd (refusal-begins _ w)))
      (λ e. rw (program-short input (ltb-false 65536 (length input) e))
      (printed-demand (build_book program_lent program_space program_turns input) refl))

  -- so it holds of the bytes that are printed
  pub prints-demand : (output : List ℕ) (count : ℕ) → Prints (program input) output count
      → PrintsDemand3 input (take count output)
  unfolding padded
  prints-demand output count (left, e) =
      let same : take count output ≡ program input =
      rw (left, e) (take-append_seam (program input) _) in
      rw same program-demand
