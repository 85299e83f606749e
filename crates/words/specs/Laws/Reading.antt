-- Laws about the reading loop: what holds after each line that was taken, and what a refusal and the end give.
-- The idea: the last line and the lent table are those of the lines before, and reading goes on from there.
use Rattle.std.specs.Prelude.{◌≡◌, refl, true, false, ℕ, suc, ◌+◌, ◌/◌, ◌≤◌, ◌<◌, leb, Result, Ok, Err}
use Rattle.std.proofs.Math.Path.{sym, ap, subst}
use Rattle.std.proofs.Common.{◌∙◌, add-one, arith}
use mathlib.Core.List.{List, [], ◌∷◌, ◌++◌}
use Rattle.std.proofs.Math.ListN.{length}
use Rattle.definitions.specs.declared.Fault.{Fault}
use Rattle.definitions.specs.declared.Fault.TheVariants.{Ragged}
use Rattle.definitions.specs.Faults.{refuse, judge}
use Rattle.definitions.specs.Forms.{word_forms}
use Rattle.definitions.specs.Lines.{whole_lines}
use Rattle.definitions.specs.declared.Refusal.{Refusal}
use Rattle.definitions.specs.Said.{result_of}
use Rattle.definitions.specs.Reading.{Kind, read_from}
use Rattle.definitions.specs.WordBooks.{WordLine, word_line, last_line, word_count, word_size, word_kind}
use Rattle.definitions.specs.WordBooks.{read_words, words_left}
use Rattle.definitions.proofs.Laws.Lists.Tests.{by-test}
use Rattle.definitions.proofs.Laws.Text.Judging.{refused-not-answered}
use Rattle.definitions.proofs.Laws.Text.Reading.{lines_end}
use Rattle.definitions.proofs.Laws.Words.AcceptedWords.{words-judged}
use Rattle.definitions.proofs.Laws.Words.OneMore.{InOrder, order-none, order-more}
use Rattle.definitions.proofs.Laws.Words.WordsSaid.{last_more}
use Rattle.lines.specs.Judging.{taken_by, line_taken, lines_before, line_bytes}
use Rattle.lines.specs.Laws.Judging.{verdict-taken, lines_none, lines_more, GoesOn}
use Rattle.lines.specs.Laws.Judging.{goes-on-first, text-torn, goes-on-more, goes-on-refused, goes-on-end}
use Rattle.words.specs.declared.Entry.{Entry}
use Rattle.words.specs.Entries.{entry_line}
use Rattle.words.specs.Storing.{words_stored}
use Rattle.words.specs.Taking.{step_of, words_taken, finish_of, Cleared, Read}
use Rattle.words.specs.Laws.Stored.{stored-none, stored-counted, stored-length, stored_more}
use Rattle.words.specs.Laws.Taking.{verdict-last, verdict-fits, step-next, step-stop}

-- what holds when the first i lines of a text were taken
pub record Turn (lent : ℕ) (text : List ℕ) (i : ℕ) (last : Entry) (words : List ℕ) : Type 0 where
  pub sized : length words ≡ lent
  pub within : i ≤ length text / 32
  pub newest : entry_line last ≡ last_line (lines_before (word_kind lent) text i)
  pub stored : words ≡ words_stored lent (lines_before (word_kind lent) text i)
  pub ordered : InOrder (lines_before (word_kind lent) text i)
  pub goes_on : GoesOn (word_kind lent) text i

-- before the first line
pub first-turn : (text words : List ℕ) → whole_lines text ≡ true → Cleared words
    → Turn (length words) text 0 (record { word = 0; place = 0; phone = 0 }) words
unfolding last_line
first-turn text words whole c =
    let kind : Kind WordLine = word_kind (length words) in
    let none : lines_before kind text 0 ≡ [] = lines_none kind text in
    record {
      sized = refl;
      within = omega arith;
      newest = rw none;
      stored = rw none (c ∙ sym (stored-none (length words)));
      ordered = rw none order-none;
      goes_on = goes-on-first kind text whole;
    }

-- ---- refusals

refused-returns : (lent : ℕ) (text words : List ℕ) (fault : Fault) (line : ℕ)
    → read_words lent text ≡ refuse fault line → length words ≡ lent
    → (Err (record { fault = fault; line = line }) ≡ result_of word_count (read_words lent text)) × Read lent text words
unfolding result_of
refused-returns lent text words fault line e l = (
  rw e refl,
  record {
    sized = l;
    holds = λ lines a. absurd (refused-not-answered (read_words lent text) fault line lines e a);
  },
)

-- a text that is not in whole lines
pub torn-returns : (text words : List ℕ) → whole_lines text ≡ false
    → (Err (record { fault = Ragged; line = 0 }) ≡ result_of word_count (read_words (length words) text))
    × Read (length words) text words
unfolding read_words
torn-returns text words e =
    refused-returns (length words) text words Ragged 0 (text-torn (word_kind (length words)) text e) refl

-- ---- after the last line

finish-last : (lent : ℕ) (before : List WordLine) (at : ℕ)
    → finish_of lent (last_line before) ≡ result_of word_count (read_from (word_kind lent) at before [])
unfolding finish_of read_from judge word_kind word_count result_of
finish-last lent before at = by-test (leb (last_line before).word (lent / word_size)) (λ e. rw e) (λ e. rw e)

-- ---- a turn, and what the returns give

module _ {lent : ℕ} {text : List ℕ} {i : ℕ} {last : Entry} {words : List ℕ} (t : Turn lent text i last words) where
  abbrev kind : Kind WordLine
  kind = word_kind lent

  abbrev before : List WordLine
  before = lines_before kind text i

  -- the step as it was taken, by the lines before
  step-here : (bytes : List ℕ) (step taken : Result Entry Fault) → bytes ≡ line_bytes text i
      → step ≡ step_of (entry_line last) bytes → step ≡ taken → step_of (last_line before) (line_bytes text i) ≡ taken
  step-here bytes step taken b e k = rw (← t.newest, ← b) (sym e ∙ k)

  -- a line that was taken
  pub turn-next : (bytes : List ℕ) (step : Result Entry Fault) (next : Entry) (words' : List ℕ)
      → bytes ≡ line_bytes text i → i < length text / 32
      → step ≡ step_of (entry_line last) bytes → step ≡ Ok next
      → words' ≡ words_taken step words → Turn lent text (i + 1) next words'
  unfolding words_taken line_taken word_kind
  turn-next bytes step next words' b l e k a =
      let line : WordLine = taken_by word_forms word_line (line_bytes text i) in
      let more : before ++ (line ∷ []) ≡ lines_before kind text (i + 1) =
      sym (lines_more kind text i l) ∙ ap (lines_before kind text) (sym (add-one i)) in
      let here = step-here bytes step (Ok next) b e k in
      let (verdict, own) = step-next (last_line before) (line_bytes text i) next here in
      let fits = verdict-fits (last_line before) (line_bytes text i) verdict in
      let passed = verdict-taken kind before (line_bytes text i) (sym (verdict-last lent before _) ∙ verdict) in
      let stored : words' ≡ words_stored lent (lines_before kind text (i + 1)) =
      a ∙ rw (k, own, t.stored) (stored_more lent t.ordered fits ∙ ap (words_stored lent) more) in
      let ordered : InOrder (lines_before kind text (i + 1)) = subst InOrder more (order-more t.ordered fits) in
      record {
        sized = ap length stored ∙ stored-length lent ordered;
        within = omega arith;
        newest = ap entry_line own ∙ sym (last_more before line) ∙ ap last_line more;
        stored = stored;
        ordered = ordered;
        goes_on = rw (add-one i) (goes-on-more kind text i t.goes_on l passed);
      }

  -- a line with a fault: the table stays as it was
  pub stop-returns : (bytes : List ℕ) (step : Result Entry Fault) (fault : Fault) (words' : List ℕ)
      → bytes ≡ line_bytes text i → i < length text / 32
      → step ≡ step_of (entry_line last) bytes → step ≡ Err fault → words' ≡ words_taken step words
      → (Err (record { fault = fault; line = i + 1 }) ≡ result_of word_count (read_words lent text)) × Read lent text words'
  unfolding words_taken read_words
  stop-returns bytes step fault words' b l e k a =
      let here = step-here bytes step (Err fault) b e k in
      let verdict = step-stop (last_line before) (line_bytes text i) fault here in
      let refusal : read_words lent text ≡ refuse fault (i + 1) =
      rw (add-one i)
      (goes-on-refused kind text i t.goes_on l fault (sym (verdict-last lent before _) ∙ verdict)) in
      refused-returns lent text words' fault (i + 1) refusal (rw (a, k) t.sized)

  -- after the last line
  pub end_returns : (answer : Result ℕ Refusal) → length text / 32 ≤ i → answer ≡ finish_of (length words) (entry_line last)
      → (answer ≡ result_of word_count (read_words lent text)) × Read lent text words
  unfolding read_words words_left
  end_returns answer e a =
      let ended : read_words lent text ≡ read_from kind (suc i) before [] = goes-on-end kind text i t.goes_on e in (
        a ∙ rw (t.sized, t.newest, ended) (finish-last lent before (suc i)),
        record {
          sized = t.sized;
          holds = λ lines h.
              let (_, judged) = lines_end kind (suc i) before lines (sym ended ∙ h) in
              let (same, few) = words-judged lent before lines judged in
              t.stored ∙ rw (← same) (stored-counted lent before few);
        },
      )
