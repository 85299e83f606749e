-- Laws about what a book prints, by the answer of its build. Where a network was built, its counts and the words
-- in the arc buffer are known, and their text is printed; where the book is refused, the line of the refusal has
-- room in a field. The proof of the function that builds and prints uses them.
use Rattle.std.specs.Prelude.{◌≡◌, List, ℕ, ◌≤◌, T, length, Result, Ok, Err}
use Rattle.std.proofs.Math.Path.{refl, subst}
use Rattle.std.proofs.Common.{◌∙◌, arith}
use Rattle.definitions.specs.Faults.{Outcome, answered, refused, and_then}
use Rattle.definitions.specs.BookLines.{BookLine, header_of}
use Rattle.definitions.specs.BookReading.{Lent, read_book}
use Rattle.definitions.specs.Tables.{tables_left}
use Rattle.definitions.specs.Growing.{finished, stopped, grown_in}
use Rattle.definitions.specs.Connecting.{Built}
use Rattle.definitions.specs.Building.{Space, build, network_in, counts_in, Buffers, buffers_of, buffers_left}
use Rattle.definitions.specs.BookBuilding.{BookBuilt, build_read, build_book, buffers_after}
use Rattle.definitions.specs.NetworkText.{network_known}
use Rattle.definitions.specs.Said.{result_of}
use Rattle.definitions.specs.declared.Refusal.{Refusal}
use Rattle.definitions.specs.Program.{program_lent, program_space, program_turns, text_of_built, network_of}
use Rattle.definitions.specs.Program.{refusal_text, printed}
use Rattle.definitions.proofs.Laws.Text.Judging.{and_then-answered}
use Rattle.definitions.proofs.Laws.Lists.Records.{arcs-read}
use Rattle.definitions.proofs.Laws.Text.RefusalLines.{built-line}
use Rattle.network.specs.declared.Build.{Build}
use Rattle.network.specs.Answers.{build_of, totals_of}
use Rattle.builder.specs.Answers.{book_answer}
use Rattle.program.specs.Laws.BuiltNetworks.{built-known}
use Rattle.program.specs.Printing.{counts_told, text_in, book_text}

-- ---- what is told of an answer and the words in the arc buffer

-- they can be printed
abbrev pub Printable : Result Build Refusal → (words : List ℕ) → Type 0
Printable (Ok built) words = T (network_known (counts_told built) words)
Printable (Err r) words = r.line ≤ 999999

-- what is printed of them
abbrev pub text_told : Result Build Refusal → (words : List ℕ) → List ℕ
text_told (Ok built) words = text_in (counts_told built) words
text_told (Err r) words = refusal_text r

-- ---- a network that is built

module _ (states : ℕ) (words : List ℕ) where
  built-printable : (built : Built) → T (network_known (counts_in states (network_in built)) words)
      → Printable (Ok (build_of states built)) words
  unfolding totals_of grown_in
  built-printable (finished turns net) h = h
  built-printable (stopped turns net) h = h

  built-told : (built : Built)
      → text_told (Ok (build_of states built)) words ≡ text_in (counts_in states (network_in built)) words
  unfolding totals_of grown_in
  built-told (finished turns net) = refl
  built-told (stopped turns net) = refl

-- the words in the arc buffer of a book
abbrev arcs_after : Lent → Space → Outcome BookBuilt → List ℕ
arcs_after lent space outcome = (buffers_after lent space outcome).arcs

module _ (lent : Lent) (space : Space) where
  -- a book's network has its counts and its arcs in the buffer
  book-told : (b : BookBuilt)
      → text_told (book_answer (answered b)) (arcs_after lent space (answered b))
      ≡ printed (network_of (answered b))
  unfolding result_of buffers_after buffers_of counts_in network_of and_then printed text_of_built
  book-told b =
      built-told (header_of b.lines).states (arcs_after lent space (answered b)) b.built
      ∙ rw (arcs-read space.arcs (network_in b.built).arcs)

  read-printable : (limit : ℕ) (lines : List BookLine) (built : Built)
      → build (header_of lines) (tables_left lent (answered lines)) space limit ≡ answered built
      → Printable (book_answer (answered (record { lines = lines; built = built })))
      (arcs_after lent space (answered (record { lines = lines; built = built })))
  unfolding result_of buffers_after buffers_left
  read-printable limit lines built e =
      let known = built-known (header_of lines) (tables_left lent (answered lines)) space limit built e in
      built-printable (header_of lines).states _ built (rw e at known)

  module _ (limit : ℕ) (text : List ℕ) where
    book-printable : (b : BookBuilt) → build_book lent space limit text ≡ answered b
        → Printable (book_answer (answered b)) (arcs_after lent space (answered b))
    unfolding build_book build_read
    book-printable b e =
        let (lines, _, rest) = and_then-answered (read_book lent text) (build_read lent space limit) b e in
        let (built, builds, same) =
        and_then-answered (build (header_of lines) (tables_left lent (answered lines)) space limit) _ b rest in
        let whole : record { lines = lines; built = built } ≡ b = cc in
        subst (λ (b : BookBuilt). Printable (book_answer (answered b)) (arcs_after lent space (answered b))) whole
        (read-printable limit lines built builds)

    -- ---- a book that is built or refused

    outcome-printable : (outcome : Outcome BookBuilt) → build_book lent space limit text ≡ outcome
        → length text ≤ 65536 → Printable (book_answer outcome) (arcs_after lent space outcome)
    unfolding result_of
    outcome-printable (answered b) e h = book-printable b e
    outcome-printable (refused r) e h = omega (arith, built-line lent space limit text r e)

    outcome-told : (outcome : Outcome BookBuilt)
        → text_told (book_answer outcome) (arcs_after lent space outcome) ≡ printed (network_of outcome)
    unfolding result_of network_of and_then printed
    outcome-told (answered b) = book-told b
    outcome-told (refused r) = refl

    module _ (answer : Result Build Refusal) (buffers : Buffers)
        (told : answer ≡ book_answer (build_book lent space limit text))
        (left : buffers ≡ buffers_after lent space (build_book lent space limit text))
      where
        pub answer-printable : length text ≤ 65536 → Printable answer buffers.arcs
        answer-printable h = rw (told, left) (outcome-printable (build_book lent space limit text) refl h)

        pub answer-told : text_told answer buffers.arcs
            ≡ printed (network_of (build_book lent space limit text))
        answer-told = rw (told, left) (outcome-told (build_book lent space limit text))

        -- what is told is what the program prints of the book, where the build had its turns and its space
        pub answer-text : limit ≡ program_turns → lent ≡ program_lent → space ≡ program_space
            → text_told answer buffers.arcs ≡ book_text text
        answer-text turns tables room = answer-told ∙ rw (turns, tables, room)
