-- The transcription gives what the lines give: over the tables that reading left, it answers models and a sum exactly
-- where the sequence is an utterance, the trees of the lines give it these models and put so many questions to it, and
-- the models have room. Every utterance is given models.
use Rattle.std.specs.Prelude.{◌≡◌, ◌↔◌, List, [], ◌∷◌, true, ◌&&◌, ℕ, ◌≤◌, T, leb}
use Rattle.std.proofs.Common.{sym, ap₂, ◌∙◌, leb→le, le→leb, lit<}
use Rattle.std.proofs.Math.Path.{ap, subst}
use Rattle.std.proofs.Math.Option.{Option, some}
use Rattle.std.proofs.Math.ListN.{length}
use Rattle.definitions.specs.declared.Header.{Header}
use Rattle.definitions.specs.declared.Fault.TheVariants.{Utterance, Short}
use Rattle.definitions.specs.Faults.{answered, Test, ◌unless◌, judge}
use Rattle.definitions.specs.Lists.{every}
use Rattle.definitions.specs.BookLines.{BookLine, header_of}
use Rattle.definitions.specs.BookReading.{Lent, read_book}
use Rattle.definitions.specs.Tables.{Tables, book_of, tables_left}
use Rattle.definitions.specs.ForeignTables.{tables_known}
use Rattle.definitions.specs.TreesGive.{trees_give}
use Rattle.definitions.specs.Transcription.{Transcribed, transcribed, is_utterance, transcribe}
use Rattle.definitions.specs.QuestionsPut.{questions_put}
use Rattle.definitions.proofs.Laws.Lists.Tests.{T_and, if-true}
use Rattle.definitions.proofs.Laws.Text.Judging.{passes_at, judge-passing, judge-answered}
use Rattle.definitions.proofs.Laws.Books.Books.{accepted-book}
use Rattle.definitions.proofs.Laws.Books.AcceptedKnown.{accepted-known}
use Rattle.definitions.proofs.Laws.Trees.ModelsAlong.{models-along, questions-along}
use Rattle.definitions.proofs.Laws.Trees.Utterances.{utterance-phones}

option-same : {A : Type 0} {x y : A} → ◌≡◌ {A = Option A} (some x) (some y) → x ≡ y
option-same e = cc

module _ (lent : Lent) (text : List ℕ) (lines : List BookLine) (e : read_book lent text ≡ answered lines)
    (S : List ℕ) (size : ℕ)
  where
    abbrev header : Header
    header = header_of lines

    abbrev tables : Tables
    tables = tables_left lent (read_book lent text)

    abbrev given : Transcribed
    given = transcribed (book_of lines) S

    -- 41, then 33
    abbrev tests : Transcribed → List Test
    tests t = Utterance unless is_utterance header.phones S ∷ Short unless leb (length t.models) size ∷ []

    -- the tables of an accepted book are never foreign
    pub never-foreign : transcribe header tables S size
        ≡ judge 0
        (Utterance unless is_utterance header.phones S
        ∷ Short unless leb (length (transcribed (book_of lines) S).models) size
        ∷ [])
        (answered (transcribed (book_of lines) S))
    unfolding transcribe judge
    never-foreign =
        if-true (tables_known header tables) _ _ (accepted-known lent text lines e)
        ∙ rw (accepted-book lent text lines e)

    -- what the lines give and put, of an utterance
    module _ (u : T (is_utterance header.phones S)) where
      pub utterance-given : trees_give lines S ≡ some (transcribed (book_of lines) S).models
      unfolding transcribed
      utterance-given = models-along lent text lines e S (utterance-phones header.phones S u)

      pub utterance-put : questions_put lines S ≡ some (transcribed (book_of lines) S).questions
      unfolding transcribed
      utterance-put = questions-along lent text lines e S (utterance-phones header.phones S u)

    -- an answer is what the lines give and put to an utterance, with room for the models
    pub record ByLines (t : Transcribed) : Type 0 where
      pub utterance : T (is_utterance header.phones S)
      pub models : trees_give lines S ≡ some t.models
      pub questions : questions_put lines S ≡ some t.questions
      pub room : length t.models ≤ size

    pub answered-as-given : (t : Transcribed) → (transcribe header tables S size ≡ answered t) ↔ ByLines t
    unfolding every
    answered-as-given t = (there, back)
      where
        there : transcribe header tables S size ≡ answered t → ByLines t
        there h =
            let (all, same) = judge-answered 0 (tests given) (answered given) t (sym never-foreign ∙ h) in
            let u = passes_at (tests given) all 0 (lit< tt) in
            let own : given ≡ t = cc in
            record {
              utterance = u;
              models = utterance-given u ∙ ap (λ (t : Transcribed). some t.models) own;
              questions = utterance-put u ∙ ap (λ (t : Transcribed). some t.questions) own;
              room = subst (λ (t : Transcribed). length t.models ≤ size) own
                  (leb→le _ _ (passes_at (tests given) all 1 (lit< tt)));
            }

        back : ByLines t → transcribe header tables S size ≡ answered t
        back b =
            let models : given.models ≡ t.models = option-same (sym (utterance-given b.utterance) ∙ b.models) in
            let questions : given.questions ≡ t.questions =
            option-same (sym (utterance-put b.utterance) ∙ b.questions) in
            let own : given ≡ t = ap₂ (λ (models : List ℕ) (questions : ℕ). record {
              models = models;
              questions = questions;
            }) models questions in
            let fits : T (leb (length given.models) size) = le→leb _ size (rw own b.room) in
            let room : T (leb (length given.models) size && true) =
            (T_and (leb (length given.models) size) true).1 (fits, tt) in
            never-foreign
            ∙ judge-passing 0 (tests given) (answered given)
            ((T_and (is_utterance header.phones S) (leb (length given.models) size && true)).1 (b.utterance, room))
            ∙ ap answered own
