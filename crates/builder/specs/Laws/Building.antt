-- Laws about reading and building put together: what the text leads to where reading refuses it, and where it
-- accepts it, by what the build from the tables then gives; and of a finished answer demand 3, and that nothing
-- leaves FINAL.
use Rattle.std.specs.Prelude.{◌≡◌, List, ℕ, T, length, Result, Ok, Err}
use Rattle.std.specs.Result.{is_ok}
use Rattle.std.proofs.Math.Path.{refl, ap}
use Rattle.std.proofs.Common.{sym, ◌∙◌, subst}
use Rattle.definitions.specs.declared.Refusal.{Refusal}
use Rattle.definitions.specs.declared.Header.{Header}
use Rattle.definitions.specs.Lists.{cleared}
use Rattle.definitions.specs.Faults.{Outcome, answered, refused, and_then}
use Rattle.definitions.specs.BookLines.{BookLine, header_of}
use Rattle.definitions.specs.BookReading.{Lent, read_book}
use Rattle.definitions.specs.Tables.{Tables, lent_of, tables_left, no_tables, tables_book}
use Rattle.definitions.specs.Building.{Space, build, Buffers, buffers_left, no_buffers}
use Rattle.definitions.specs.BookBuilding.{BookBuilt, build_read, build_book, tables_after, buffers_after}
use Rattle.definitions.specs.Said.{result_of}
use Rattle.definitions.proofs.Laws.Results.{answered-ok, refused-err}
use Rattle.definitions.specs.Growing.{finished}
use Rattle.definitions.specs.Connecting.{Network, Built}
use Rattle.definitions.proofs.Demand.Demand.{demand3}
use Rattle.definitions.proofs.Demand.Endings.{finished-final}
use Rattle.network.specs.declared.Totals.{Totals}
use Rattle.network.specs.declared.Build.{Build}
use Rattle.network.specs.Answers.{totals_of, build_of, lent_buffers, build_answer, build_left}
use Rattle.builder.specs.Answers.{book_answer, WhereFinished, MeetsDemand3, KeepsFinalLast}
use Rattle.builder.specs.Tables.{tables_kept}
use Rattle.builder.specs.Laws.Keeping.{finished-inverted}

-- ---- a text that reading refuses

module _ (lent : Lent) (space : Space) (limit : ℕ) (text : List ℕ) (r : Refusal)
    (e : read_book lent text ≡ refused r)
  where
    pub refused-book : build_book lent space limit text ≡ refused r
    unfolding build_book and_then
    refused-book = rw e

    pub refused-answer : Err r ≡ book_answer (build_book lent space limit text)
    unfolding result_of
    refused-answer = rw refused-book

    pub refused-tables : (tables : Tables) → tables ≡ tables_left lent (read_book lent text)
        → tables ≡ tables_after lent (build_book lent space limit text)
    unfolding tables_after tables_left
    refused-tables tables h = h ∙ rw (e, refused-book)

    pub refused-buffers : (buffers : Buffers) → buffers ≡ no_buffers space
        → buffers ≡ buffers_after lent space (build_book lent space limit text)
    unfolding buffers_after
    refused-buffers buffers h = h ∙ rw refused-book

    -- whatever is claimed of a finished answer
    pub refused-unfinished : (claim : Totals → Type 0) → WhereFinished (Err r) claim
    refused-unfinished claim totals f = absurd (subst T (sym (ap is_ok f)) tt)

-- ---- a text that reading accepts

module _ (lent : Lent) (space : Space) (limit : ℕ) (text : List ℕ) (lines : List BookLine)
    (e : read_book lent text ≡ answered lines)
  where
    -- the tables as reading left them, and what the build gives
    abbrev tables_read : Tables
    tables_read = tables_left lent (read_book lent text)

    abbrev outcome : Outcome Built
    outcome = build (header_of lines) tables_read space limit

    abbrev with_lines : Outcome Built → Outcome BookBuilt
    with_lines o = and_then o (λ built. answered (record { lines = lines; built = built }))

    built-book : build_book lent space limit text ≡ with_lines outcome
    unfolding build_book build_read and_then
    built-book = rw e

    pub built-answer : (answer : Result Build Refusal) → answer ≡ result_of (build_of (header_of lines).states) outcome
        → answer ≡ book_answer (build_book lent space limit text)
    unfolding result_of and_then
    built-answer answer h = h ∙ go outcome ∙ ap book_answer (sym built-book)
      where
        go : (o : Outcome Built) → result_of (build_of (header_of lines).states) o ≡ book_answer (with_lines o)
        go (answered built) = refl
        go (refused r) = refl

    pub built-tables : (tables : Tables)
        → lent ≡ lent_of tables_read
        → tables ≡ tables_kept tables_read outcome
        → tables ≡ tables_after lent (build_book lent space limit text)
    unfolding tables_after tables_kept and_then
    built-tables tables sized h = h ∙ go outcome ∙ ap (tables_after lent) (sym built-book)
      where
        go : (o : Outcome Built) → tables_kept tables_read o ≡ tables_after lent (with_lines o)
        go (answered built) = ap (tables_left lent) e
        go (refused r) = ap no_tables (sym sized)

    pub built-buffers : (buffers : Buffers)
        → buffers ≡ buffers_left (tables_book (header_of lines) tables_read) space outcome
        → buffers ≡ buffers_after lent space (build_book lent space limit text)
    unfolding buffers_left buffers_after and_then
    built-buffers buffers h = h ∙ go outcome ∙ ap (buffers_after lent space) (sym built-book)
      where
        go : (o : Outcome Built)
            → buffers_left (tables_book (header_of lines) tables_read) space o ≡ buffers_after lent space (with_lines o)
        go (answered built) = rw e
        go (refused r) = refl

    -- of the answer's own counts and the words in the arc buffer:
    module _ (answer : Result Build Refusal) (arcs : List ℕ)
        (h : answer ≡ result_of (build_of (header_of lines).states) outcome)
        (left : arcs ≡ (buffers_left (tables_book (header_of lines) tables_read) space outcome).arcs)
      where
        -- a claim about the totals of every build that is finished,
        built-finished : (claim : Totals → Type 0)
            → ((turns : ℕ) (net : Network) → outcome ≡ answered (finished turns net)
            → claim (totals_of (header_of lines).states turns net))
            → WhereFinished answer claim
        built-finished claim holds totals f =
            let (turns, net, done, same) = finished-inverted (header_of lines).states outcome totals (sym f ∙ h) in
            subst claim (sym same) (holds turns net done)

        -- demand 3,
        pub built-demand : MeetsDemand3 lent text answer arcs
        unfolding totals_of
        built-demand =
            built-finished _ λ turns net done.
            (lines, e, rw left (demand3 lent text lines space limit e turns net done))

        -- and that nothing leaves FINAL
        pub built-final : KeepsFinalLast answer arcs
        unfolding totals_of
        built-final =
            built-finished _ λ turns net done.
            rw left (finished-final lent text lines space limit e turns net done)

-- ---- the two ways that reading and building end, as the code meets them

-- what reading and building together answer and leave
abbrev pub BookEnds : Lent → Space → (limit : ℕ) → (text : List ℕ) → Result Build Refusal → Tables → Buffers → Type 0
BookEnds lent space limit text answer tables buffers =
    (answer ≡ book_answer (build_book lent space limit text))
    × ((tables ≡ tables_after lent (build_book lent space limit text))
    × ((buffers ≡ buffers_after lent space (build_book lent space limit text))
    × (MeetsDemand3 lent text answer buffers.arcs × KeepsFinalLast answer buffers.arcs)))

module _ (lent : Lent) (space : Space) (limit : ℕ) (text : List ℕ) where
  -- what the build from these tables under this header answers and leaves is what the whole does
  abbrev EndsFrom : Header → Tables → Type 0
  EndsFrom header tables =
      (answer : Result Build Refusal) (tables' : Tables) (buffers : Buffers)
      → length tables.nodes ≡ lent.nodes → length tables.classes ≡ lent.classes
      → length tables.roots ≡ lent.roots → length tables.plains ≡ lent.plains
      → answer ≡ build_answer header tables space limit
      → tables' ≡ tables_kept tables (build header tables space limit)
      → buffers ≡ build_left header tables space limit
      → BookEnds lent space limit text answer tables' buffers

  ends_read : (lines : List BookLine) → read_book lent text ≡ answered lines
      → EndsFrom (header_of lines) (tables_left lent (read_book lent text))
  ends_read lines e answer tables' buffers n c r p a t b =
      let left = ap (λ (x : Buffers). x.arcs) b in (
        built-answer lent space limit text lines e answer a,
        (
          built-tables lent space limit text lines e tables' (rw (n, c, r, p)) t,
          (
            built-buffers lent space limit text lines e buffers b,
            (
              built-demand lent space limit text lines e answer buffers.arcs a left,
              built-final lent space limit text lines e answer buffers.arcs a left,
            ),
          ),
        ),
      )

  module _ {reads : Result Header Refusal} {tables : Tables}
      (says : reads ≡ result_of header_of (read_book lent text))
      (left : tables ≡ tables_left lent (read_book lent text))
    where
      pub accepted-returns : (header : Header) → reads ≡ Ok header → EndsFrom header tables
      accepted-returns header f =
          let read = answered-ok header_of (read_book lent text) header (sym says ∙ f) in
          subst (λ (h : Header). EndsFrom h tables) read.said
          (subst (λ (x : Tables). EndsFrom (header_of read.answer) x) (sym left) (ends_read read.answer read.was))

      pub refused-returns : (r : Refusal) → reads ≡ Err r → (combinations metastates arcs : List ℕ)
          → combinations ≡ cleared space.combinations → metastates ≡ cleared space.metastates
          → arcs ≡ cleared space.arcs
          → BookEnds lent space limit text (Err r) tables (lent_buffers combinations metastates arcs)
      unfolding no_buffers
      refused-returns r f combinations metastates arcs x y z =
          let e = refused-err header_of (read_book lent text) r (sym says ∙ f) in (
            refused-answer lent space limit text r e,
            (
              refused-tables lent space limit text r e tables left,
              (
                refused-buffers lent space limit text r e (lent_buffers combinations metastates arcs) (rw (x, y, z)),
                (
                  refused-unfinished lent space limit text r e _,
                  refused-unfinished lent space limit text r e _,
                ),
              ),
            ),
          )
