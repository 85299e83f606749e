-- Document 01, "Transcription": from a phone sequence to models, by the lent tables; and document 02, P5, how many
-- questions were put.
use Rattle.std.specs.Prelude.{List, [], ◌∷◌, map, Bool, ◌&&◌, ℕ, leb, ltb, length}
use Rattle.definitions.specs.declared.Header.{Header}
use Rattle.definitions.specs.declared.Fault.TheVariants.{Foreign, Utterance, Short}
use Rattle.definitions.specs.Faults.{Outcome, answered, refused, ◌unless◌, judge}
use Rattle.definitions.specs.Lists.{◌!◌, every, concat_map, up_from, sum_of, cleared, padded}
use Rattle.definitions.specs.BookLines.{is_phone, Reached}
use Rattle.definitions.specs.Tables.{Book, Tables, tables_book}
use Rattle.definitions.specs.ForeignTables.{tables_known}
use Rattle.definitions.specs.Lookup.{reached}
use Rattle.definitions.specs.Tables.{root_of}
use Rattle.definitions.specs.TreesGive.{contexts, silent_ends}

-- what a context reaches in the tree of its own phone, for a state
abbrev pub reached_for : Book → (context : List ℕ) → (state : ℕ) → Reached
reached_for book context state =
    reached book.nodes book.classes context (root_of book (context ! book.half) state)

-- the model of the leaf
unfoldable pub model_of : Book → (context : List ℕ) → (state : ℕ) → ℕ
model_of book context state = (reached_for book context state).model

-- "For a phone sequence the models of all states of all phones in order"
unfoldable pub transcription : Book → (S : List ℕ) → List ℕ
transcription book S =
    concat_map (λ context. map (λ state. model_of book context state) (up_from 1 book.states))
    (contexts book.half S)

-- "the transcription shall give their sum over all phones and states": of a phone in its context, and of all
unfoldable pub questions_at : Book → (context : List ℕ) → ℕ
questions_at book context = sum_of (λ state. (reached_for book context state).questions) (up_from 1 book.states)

unfoldable pub question_sum : Book → (S : List ℕ) → ℕ
question_sum book S = sum_of (λ context. questions_at book context) (contexts book.half S)

-- both together
pub record Transcribed : Type 0 where
  pub models : List ℕ
  pub questions : ℕ

unfoldable pub transcribed : Book → (S : List ℕ) → Transcribed
transcribed book S = record { models = transcription book S; questions = question_sum book S }

-- not 41, "a sequence empty, with a phone out of range, or not silence at both ends", and of document 02 "a sequence of
-- more than 1000000 phones"
abbrev pub most_sounds : ℕ
most_sounds = 1000000

unfoldable pub is_utterance : (phones : ℕ) → (S : List ℕ) → Bool
is_utterance phones S =
    ltb 0 (length S) && leb (length S) most_sounds && every (is_phone phones) S && silent_ends S

-- 18, then 41, then 33: the models, into a buffer of so many words, and how many questions were put
unfoldable pub transcribe : Header → Tables → (S : List ℕ) → (size : ℕ) → Outcome Transcribed
transcribe header tables S size =
    let given : Transcribed = transcribed (tables_book header tables) S in
    judge 0
    (Foreign unless tables_known header tables
    ∷ Utterance unless is_utterance header.phones S
    ∷ Short unless leb (length given.models) size
    ∷ [])
    (answered given)

-- what the buffer of models holds then
unfoldable pub models_left : (size : ℕ) → Outcome Transcribed → List ℕ
models_left size (answered given) = padded size given.models
models_left size (refused r) = cleared size
