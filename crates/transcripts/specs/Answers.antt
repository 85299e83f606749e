-- What is found for a state, what the transcription answers, and what the functions below it leave.
use Rattle.std.specs.Prelude.{◌≡◌, List, ◌++◌, map, ℕ, ◌*◌, length, drop}
use Rattle.definitions.specs.Lists.{up_from}
use Rattle.definitions.specs.BookLines.{Reached}
use Rattle.definitions.specs.Tables.{Book}
use Rattle.definitions.specs.Transcription.{model_of, transcription, questions_at, question_sum, Transcribed}
use Rattle.transcripts.specs.declared.Found.{Found}
use Rattle.transcripts.specs.declared.Tally.{Tally}

-- the model for a state, with the number of questions
abbrev pub found_of : Reached → Found
found_of r = record { model = r.model; questions = r.questions }

-- the count of the models, and the sum of the questions
abbrev pub tally_of : Transcribed → Tally
tally_of given = record { models = length given.models; questions = given.questions }

abbrev pub no_tally : Tally
no_tally = record { models = 0; questions = 0 }

-- the models of a context, the states ascending
abbrev pub state_models : Book → (context : List ℕ) → List ℕ
state_models book context = map (λ state. model_of book context state) (up_from 1 book.states)

-- what the functions below the transcription leave and answer: for a context the models and questions of its states,
pub record StatesGiven (book : Book) (context models : List ℕ) (questions : ℕ) : Type 0 where
  pub models_are : models ≡ state_models book context
  pub questions_are : questions ≡ questions_at book context

-- and for a sequence those of all its places, in the front of a buffer that was `before`
pub record PlacesGiven (book : Book) (S before models : List ℕ) (questions : ℕ) : Type 0 where
  pub models_are : models ≡ transcription book S ++ drop (length S * book.states) before
  pub questions_are : questions ≡ question_sum book S
