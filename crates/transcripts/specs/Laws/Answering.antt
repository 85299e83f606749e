-- Laws about the answers of the transcription, one for each way that the code returns: 18, then 41, then 33.
use Rattle.std.specs.Prelude.{◌≡◌, Result, Ok, Err, ℕ, ◌-◌, ◌*◌, ◌/◌, ◌≤◌, ◌<◌, ltb}
use Rattle.std.proofs.Common.{sym, ◌∙◌, div-lt_iff_lt-mul, arith}
use Rattle.std.proofs.Math.Path.{ap}
use mathlib.Core.List.{List, ◌++◌}
use Rattle.std.proofs.Math.Bool.{true, false}
use Rattle.std.proofs.Math.Dec.{leb}
use Rattle.std.proofs.Math.ListN.{length, drop}
use borrow.Author.Tests.{le-leb, lt-leb, ltb-true, ltb-false}
use Rattle.definitions.specs.declared.Header.{Header}
use Rattle.definitions.specs.declared.Fault.{Fault}
use Rattle.definitions.specs.declared.Refusal.{Refusal}
use Rattle.definitions.specs.declared.Fault.TheVariants.{Foreign, Utterance, Short}
use Rattle.definitions.specs.Faults.{refuse, judge}
use Rattle.definitions.specs.Said.{result_of}
use Rattle.definitions.specs.Lists.{cleared, padded}
use Rattle.definitions.specs.Tables.{Tables, Book, tables_book, book_in, tables_contents}
use Rattle.definitions.specs.ForeignTables.{tables_known}
use Rattle.definitions.specs.Transcription.{transcription, question_sum, transcribed, is_utterance, transcribe}
use Rattle.definitions.specs.Transcription.{models_left}
use Rattle.definitions.proofs.Laws.Lists.Tests.{by-test}
use Rattle.definitions.proofs.Laws.Lists.Lists.{drop-cleared}
use Rattle.definitions.proofs.Laws.Books.AcceptedKnown.{header-ranges}
use Rattle.tables.specs.Laws.KnownTables.{known-header}
use Rattle.trees.specs.Laws.Answering.{at-no-line}
use Rattle.transcripts.specs.declared.Tally.{Tally}
use Rattle.transcripts.specs.Answers.{tally_of}
use Rattle.transcripts.specs.Laws.Models.{transcription-length}

-- whether so many models have room, by a division that stays in range
module _ (count words states : ℕ) (some : 0 < states) where
  pub no_room : words / states < count → words < count * states
  no_room h = (div-lt_iff_lt-mul some).0 h

  pub has_room : count ≤ words / states → count * states ≤ words
  has_room h =
      by-test (ltb words (count * states))
      (λ t. absurd (omega (arith, (div-lt_iff_lt-mul {x = words} {y = count} some).1 (ltb-true _ _ t))))
      (λ t. ltb-false _ _ t)

pub some_state : (header : Header) (tables : Tables) → tables_known header tables ≡ true → 0 < header.states
some_state header tables h =
    let known = known-header header tables.nodes tables.classes tables.roots tables.plains (rw h tt) in
    (header-ranges header known).states_range.low

module _ (header : Header) (tables : Tables) (S : List ℕ) (size : ℕ) (answer : Result Tally Refusal) (left : List ℕ)
  where
    -- what the code answers and leaves in the buffer
    abbrev Ends : Type 0
    Ends =
        (answer ≡ result_of tally_of (transcribe header tables S size))
        × (left ≡ models_left size (transcribe header tables S size))

    ends-refused : (fault : Fault) → transcribe header tables S size ≡ refuse fault 0
        → answer ≡ Err (at-no-line fault) → left ≡ cleared size → Ends
    unfolding result_of models_left
    ends-refused fault e a l = rw e (a, l)

    pub ends_foreign : tables_known header tables ≡ false → answer ≡ Err (at-no-line Foreign)
        → left ≡ cleared size → Ends
    unfolding transcribe judge
    ends_foreign h a l = ends-refused Foreign (rw h) a l

    module _ (h : tables_known header tables ≡ true) where
      pub ends-utterance : is_utterance header.phones S ≡ false
          → answer ≡ Err (at-no-line Utterance) → left ≡ cleared size → Ends
      unfolding transcribe judge
      ends-utterance u a l = ends-refused Utterance (rw (h, u)) a l

      module _ (u : is_utterance header.phones S ≡ true) (states words : ℕ) (e : states ≡ header.states)
          (w : words ≡ size) (book : Book) (own : tables_book header tables ≡ book)
        where
          abbrev models : List ℕ
          models = transcription book S

          own-length : length models ≡ length S * header.states
          unfolding tables_book book_in tables_contents
          own-length =
              transcription-length book S ∙ ap (λ (b : Book). length S * b.states) (sym own)

          models_length : length models ≡ length S * states
          models_length = own-length ∙ ap (λ (n : ℕ). length S * n) (sym e)

          pub ends-short : words < length S * states → answer ≡ Err (at-no-line Short)
              → left ≡ cleared size → Ends
          unfolding transcribe judge transcribed
          ends-short r a l =
              let full : leb (length models) size ≡ false =
              lt-leb (length models) size (omega (arith, models_length)) in
              ends-refused Short (rw (h, u, own, full)) a l

          pub ends-given : length S * states ≤ words → (questions : ℕ) → questions ≡ question_sum book S
              → answer ≡ Ok (record { models = length S * states; questions = questions })
              → (d : List ℕ) → d ≡ cleared size → left ≡ models ++ drop (length S * header.states) d → Ends
          unfolding transcribe judge result_of models_left padded transcribed
          ends-given r questions q a d k l =
              let fits : leb (length models) size ≡ true =
              le-leb (length models) size (omega (arith, models_length)) in
              let rest : drop (length S * header.states) d ≡ cleared (size - length models) =
              rw (k, own-length) (drop-cleared (length S * header.states) size) in
              rw (h, u, own, fits)
              (a ∙ rw (models_length, q), l ∙ ap (λ (m : List ℕ). models ++ m) rest)
