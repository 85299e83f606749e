-- Laws about the reading loop: what holds after each line that was taken, and what a refusal and the end give.
-- The idea: the state and the tables are those of the lines before, and reading goes on from there.
use Rattle.std.specs.Prelude.{◌≡◌, true, false, ℕ, suc, ◌+◌, ◌/◌, ◌≤◌, ◌<◌, length, replicate, Result, Ok, Err}
use Rattle.std.proofs.Math.Path.{refl, ap}
use Rattle.std.proofs.Common.{sym, ◌∙◌, add-one, arith, take_all}
use mathlib.Core.List.{List, [], ◌∷◌, ◌++◌, map}
use Rattle.definitions.specs.declared.Fault.{Fault}
use Rattle.definitions.specs.declared.Fault.TheVariants.{Ragged}
use Rattle.definitions.specs.Faults.{refuse}
use Rattle.definitions.specs.Lines.{whole_lines, lines_of}
use Rattle.definitions.specs.Reading.{read_from}
use Rattle.definitions.specs.BookLines.{BookLine, header_of}
use Rattle.definitions.specs.BookReading.{Lent, book_kind, read_book}
use Rattle.definitions.specs.Tables.{tables_of, contents_of}
use Rattle.lines.specs.Judging.{line_taken, lines_before, line_bytes}
use Rattle.tables.specs.Lending.{lengths_of, lent_tables}
use Rattle.booklines.specs.declared.State.{State}
use Rattle.booklines.specs.States.{state_of}
use Rattle.definitions.specs.Said.{result_of}
use Rattle.definitions.specs.declared.Header.{Header}
use Rattle.definitions.specs.declared.Refusal.{Refusal}
use Rattle.book.specs.Storing.{nodes_after, classes_after, roots_after, plains_after, counts_after, nodes_stored}
use Rattle.book.specs.Storing.{classes_stored, roots_stored, plains_stored, counts_stored}
use Rattle.book.specs.Steps.{Step, book_taken, step_of, where_taken, finish_of}
use Rattle.book.specs.Taking.{Ready, Endable, Cleared, Read, nodes_taken, classes_taken, roots_taken, plains_taken}
use Rattle.book.specs.Taking.{counts_taken}
use Rattle.definitions.proofs.Laws.Text.Judging.{refused-not-answered}
use Rattle.lines.specs.Laws.Judging.{lines_none, lines_more, lines-counted, GoesOn, goes-on-first, text-torn}
use Rattle.lines.specs.Laws.Judging.{goes-on-more, goes-on-refused, goes-on-end}
use Rattle.lines.specs.Laws.Texts.{lines-count}
use Rattle.book.specs.Laws.Steps.{Taken, step-next, step-stop}
use Rattle.book.specs.Laws.Keeping.{Kept, kept-none, kept_more}
use Rattle.book.specs.Laws.Readying.{kept-ready, kept-endable}
use Rattle.book.specs.Laws.Stored.{nodes-stored, classes-stored, roots-stored, counts-stored, stored-none}
use Rattle.book.specs.Laws.Stored.{plains-stored, stored-lengths}
use Rattle.book.specs.Laws.Finishing.{finish-state, finish-accepted}

-- ---- the state and the tables after the lines `before`

pub record Held (lent : Lent) (before : List BookLine) (s : State)
    (nodes classes roots plains counts : List ℕ) : Type 0 where
  pub kept : Kept lent before
  pub state : s ≡ state_of before
  pub nodes-hold : nodes ≡ nodes_stored lent before
  pub classes-hold : classes ≡ classes_stored lent before
  pub roots-hold : roots ≡ roots_stored lent before
  pub plains-hold : plains ≡ plains_stored lent before
  pub counts-hold : counts ≡ counts_stored before

held_none : (nodes classes roots plains : List ℕ) (s : State) → s ≡ state_of [] → Cleared nodes classes roots plains
    → Held (lengths_of nodes classes roots plains) [] s nodes classes roots plains (replicate 4096 0)
held_none nodes classes roots plains s e c =
    let none = stored-none (lengths_of nodes classes roots plains) in
    record {
      kept = kept-none (lengths_of nodes classes roots plains);
      state = e;
      nodes-hold = c.nodes_clear ∙ sym none.nodes;
      classes-hold = c.classes_clear ∙ sym none.classes;
      roots-hold = c.roots_clear ∙ sym none.roots;
      plains-hold = c.plains_clear ∙ sym none.plains;
      counts-hold = sym none.counts;
    }

module _ {lent : Lent} {before : List BookLine} {s : State} {nodes classes roots plains counts : List ℕ}
    (h : Held lent before s nodes classes roots plains counts)
  where
    -- one more line
    held_more : (bytes : List ℕ) (next : State) → Taken lent before bytes next
        → Held lent (before ++ (book_taken bytes ∷ [])) next (nodes_after (book_taken bytes) nodes)
        (classes_after (book_taken bytes) classes) (roots_after s.header.states (book_taken bytes) roots)
        (plains_after (book_taken bytes) plains) (counts_after (book_taken bytes) counts)
    unfolding state_of
    held_more bytes next t =
        let line : BookLine = book_taken bytes in
        record {
          kept = kept_more lent before line h.kept t.fits;
          state = t.state;
          nodes-hold =
              ap (nodes_after line) h.nodes-hold
              ∙ nodes-stored lent before line h.kept t.fits;
          classes-hold =
              ap (classes_after line) h.classes-hold
              ∙ classes-stored lent before line h.kept t.fits;
          roots-hold =
              ap (λ (z : State). roots_after z.header.states line roots) h.state
              ∙ ap (roots_after (header_of before).states line) h.roots-hold
              ∙ roots-stored lent before line h.kept t.fits;
          plains-hold =
              ap (plains_after line) h.plains-hold
              ∙ plains-stored lent before line h.kept t.fits;
          counts-hold =
              ap (counts_after line) h.counts-hold
              ∙ counts-stored lent before line h.kept t.fits;
        }

    -- after the last line
    held-finished : (text : List ℕ) → before ≡ map book_taken (lines_of text)
        → finish_of text s counts ≡ result_of header_of (read_from (book_kind lent) (suc (length before)) before [])
    held-finished text all =
        ap (λ (z : State). finish_of text z counts) h.state
        ∙ ap (finish_of text (state_of before)) h.counts-hold
        ∙ finish-state lent text before h.kept all

    -- the tables hold the contents of these lines
    held-book : lent_tables nodes classes roots plains ≡ tables_of lent (contents_of before)
    unfolding tables_of contents_of nodes_stored classes_stored roots_stored plains_stored
    held-book = rw (h.nodes-hold, h.classes-hold, h.roots-hold, h.plains-hold) refl

-- ---- the loop's turns: the first i lines of a text were taken

pub record Turn (lent : Lent) (text : List ℕ) (i : ℕ) (s : State)
    (nodes classes roots plains counts : List ℕ) : Type 0 where
  pub nodes-sized : length nodes ≡ lent.nodes
  pub classes_sized : length classes ≡ lent.classes
  pub roots-sized : length roots ≡ lent.roots
  pub plains-sized : length plains ≡ lent.plains
  pub counts-sized : length counts ≡ 4096
  pub within : i ≤ length text / 32
  pub held : Held lent (lines_before (book_kind lent) text i) s nodes classes roots plains counts
  pub goes_on : GoesOn (book_kind lent) text i

turn : {lent : Lent} {text : List ℕ} {i : ℕ} {s : State} {nodes classes roots plains counts : List ℕ}
    → i ≤ length text / 32 → Held lent (lines_before (book_kind lent) text i) s nodes classes roots plains counts
    → GoesOn (book_kind lent) text i → Turn lent text i s nodes classes roots plains counts
turn {lent = lent} {text = text} {i = i} within h on =
    let sized = stored-lengths lent (lines_before (book_kind lent) text i) h.kept in
    record {
      nodes-sized = ap length h.nodes-hold ∙ sized.nodes;
      classes_sized = ap length h.classes-hold ∙ sized.classes;
      roots-sized = ap length h.roots-hold ∙ sized.roots;
      plains-sized = ap length h.plains-hold ∙ sized.plains;
      counts-sized = ap length h.counts-hold ∙ sized.counts;
      within = within;
      held = h;
      goes_on = on;
    }

pub first-turn : (text nodes classes roots plains : List ℕ) (s : State) → whole_lines text ≡ true → s ≡ state_of []
    → Cleared nodes classes roots plains
    → Turn (lengths_of nodes classes roots plains) text 0 s nodes classes roots plains (replicate 4096 0)
first-turn text nodes classes roots plains s whole e c =
    let kind = book_kind (lengths_of nodes classes roots plains) in
    turn (omega arith) (rw (lines_none kind text) (held_none nodes classes roots plains s e c))
    (goes-on-first kind text whole)

-- ---- refusals

refused-returns : (lent : Lent) (text nodes classes roots plains : List ℕ) (fault : Fault) (line : ℕ)
    → read_book lent text ≡ refuse fault line → lengths_of nodes classes roots plains ≡ lent
    → (Err (record { fault = fault; line = line }) ≡ result_of header_of (read_book lent text))
    × Read lent text nodes classes roots plains
unfolding result_of
refused-returns lent text nodes classes roots plains fault line e l = (
  rw e refl,
  record {
    lengths = l;
    book = λ lines a. absurd (refused-not-answered (read_book lent text) fault line lines e a);
  },
)

-- a text that is not in whole lines
pub torn-returns : (text nodes classes roots plains : List ℕ) → whole_lines text ≡ false
    → (Err (record { fault = Ragged; line = 0 })
    ≡ result_of header_of (read_book (lengths_of nodes classes roots plains) text))
    × Read (lengths_of nodes classes roots plains) text nodes classes roots plains
unfolding read_book
torn-returns text nodes classes roots plains e =
    let lent : Lent = lengths_of nodes classes roots plains in
    refused-returns lent text nodes classes roots plains Ragged 0 (text-torn (book_kind lent) text e) refl

-- ---- a turn, and what the returns give

module _ {lent : Lent} {text : List ℕ} {i : ℕ} {s : State} {nodes classes roots plains counts : List ℕ}
    (t : Turn lent text i s nodes classes roots plains counts)
  where
    abbrev before : List BookLine
    before = lines_before (book_kind lent) text i

    lengths : lengths_of nodes classes roots plains ≡ lent
    lengths = rw (t.nodes-sized, t.classes_sized, t.roots-sized, t.plains-sized) refl

    counted : length before ≡ i
    counted = lines-counted (book_kind lent) text i t.within

    -- the next line can be taken
    pub turn-ready : (bytes : List ℕ) → bytes ≡ line_bytes text i → i < length text / 32
        → length text ≤ 18446744073709551615 → Ready (lengths_of nodes classes roots plains) s bytes
    turn-ready bytes b l small =
        rw (lengths, b, t.held.state)
        (kept-ready lent before (line_bytes text i) t.held.kept (omega (arith, l, counted)))

    -- after these lines can be judged
    pub turn-endable : length text ≤ 18446744073709551615 → Endable s counts
    turn-endable small =
        rw t.held.state
        (kept-endable lent before counts t.held.kept (omega (arith, t.within, counted)) t.counts-sized)

    -- the step as it was taken, after the lines before
    step-here : (bytes : List ℕ) (step taken : Step) → bytes ≡ line_bytes text i
        → step ≡ step_of (lengths_of nodes classes roots plains) s bytes → step ≡ taken
        → step_of lent (state_of before) (line_bytes text i) ≡ taken
    step-here bytes step taken b e k = rw (← t.held.state, ← lengths, ← b) (sym e ∙ k)

    -- a line that was taken
    pub turn-next : (bytes : List ℕ) (step : Step) (next : State) (nodes' classes' roots' plains' counts' : List ℕ)
        → bytes ≡ line_bytes text i → i < length text / 32
        → step ≡ step_of (lengths_of nodes classes roots plains) s bytes → step ≡ Ok next
        → nodes' ≡ nodes_taken step bytes nodes → classes' ≡ classes_taken step bytes classes
        → roots' ≡ roots_taken s.header.states step bytes roots → plains' ≡ plains_taken step bytes plains
        → counts' ≡ counts_taken step bytes counts
        → Turn lent text (i + 1) next nodes' classes' roots' plains' counts'
    unfolding where_taken line_taken book_kind
    turn-next bytes step next nodes' classes' roots' plains' counts' b l e k en ec er ep ek =
        let taken = step-next lent before (line_bytes text i) next (step-here bytes step (Ok next) b e k) in
        let more = held_more t.held (line_bytes text i) next taken in
        let on = goes-on-more (book_kind lent) text i t.goes_on l taken.passed in
        rw (add-one i, en, ec, er, ep, ek, k, b)
        (turn (omega arith) (rw (lines_more (book_kind lent) text i l) more) on)

    -- a line with a fault: the tables stay as they were
    pub stop-returns : (bytes : List ℕ) (step : Step) (fault : Fault) (nodes' classes' roots' plains' : List ℕ)
        → bytes ≡ line_bytes text i → i < length text / 32
        → step ≡ step_of (lengths_of nodes classes roots plains) s bytes → step ≡ Err fault
        → nodes' ≡ nodes_taken step bytes nodes → classes' ≡ classes_taken step bytes classes
        → roots' ≡ roots_taken s.header.states step bytes roots → plains' ≡ plains_taken step bytes plains
        → (Err (record { fault = fault; line = i + 1 }) ≡ result_of header_of (read_book lent text))
        × Read lent text nodes' classes' roots' plains'
    unfolding where_taken read_book
    stop-returns bytes step fault nodes' classes' roots' plains' b l e k en ec er ep =
        let stop = step-here bytes step (Err fault) b e k in
        let verdict = step-stop lent before (line_bytes text i) fault stop in
        let refusal : read_book lent text ≡ refuse fault (i + 1) =
        rw (add-one i) (goes-on-refused (book_kind lent) text i t.goes_on l fault verdict) in
        let same : lengths_of nodes' classes' roots' plains' ≡ lent = rw (en, ec, er, ep, k) lengths in
        refused-returns lent text nodes' classes' roots' plains' fault (i + 1) refusal same

    -- at the end these are all lines of the text
    all-taken : length text / 32 ≤ i → before ≡ map book_taken (lines_of text)
    unfolding lines_before line_taken book_kind
    all-taken e = ap (map book_taken) (take_all i (lines_of text) (omega (arith, e, lines-count text)))

    pub end_returns : (answer : Result Header Refusal) → length text / 32 ≤ i → answer ≡ finish_of text s counts
        → (answer ≡ result_of header_of (read_book lent text)) × Read lent text nodes classes roots plains
    unfolding read_book
    end_returns answer e a =
        let end : read_book lent text ≡ read_from (book_kind lent) (suc i) before [] =
        goes-on-end (book_kind lent) text i t.goes_on e in (
          a ∙ held-finished t.held text (all-taken e)
              ∙ ap (λ (z : ℕ). result_of header_of (read_from (book_kind lent) (suc z) before [])) counted
              ∙ ap (result_of header_of) (sym end),
          record {
            lengths = lengths;
            book = λ lines r.
                held-book t.held
                ∙ ap (λ (l : List BookLine). tables_of lent (contents_of l))
                (sym (finish-accepted lent before lines (suc i) (sym end ∙ r)));
          },
        )
