-- Laws about the sequences that are transcribed: their phones are in range, and there are at most 1000000 of them. A
-- longer one is 41 over any tables that are not foreign.
use Rattle.std.specs.Prelude.{◌≡◌, List, Bool, false, ◌&&◌, ℕ, ◌≤◌, ◌<◌, T, leb, ltb, length}
use Rattle.std.proofs.Common.{◌∙◌, arith, leb→le}
use borrow.Author.Tests.{lt-ltb, lt-leb}
use Rattle.definitions.specs.declared.Header.{Header}
use Rattle.definitions.specs.declared.Fault.TheVariants.{Utterance}
use Rattle.definitions.specs.Faults.{refuse, judge}
use Rattle.definitions.specs.Lists.{every}
use Rattle.definitions.specs.BookLines.{is_phone}
use Rattle.definitions.specs.Tables.{Tables}
use Rattle.definitions.specs.ForeignTables.{tables_known}
use Rattle.definitions.specs.TreesGive.{silent_ends}
use Rattle.definitions.specs.Transcription.{most_sounds, is_utterance, transcribe}
use Rattle.definitions.proofs.Laws.Lists.Tests.{T_and, T-three, if-true}

module _ (phones : ℕ) (S : List ℕ) where
  abbrev few : Bool
  few = ltb 0 (length S) && leb (length S) most_sounds

  parts : T (is_utterance phones S) → T few × T (every (is_phone phones) S) × T (silent_ends S)
  unfolding is_utterance
  parts u = (T-three few (every (is_phone phones) S) (silent_ends S)).0 u

  pub utterance-few : T (is_utterance phones S) → length S ≤ most_sounds
  utterance-few u =
      leb→le (length S) most_sounds ((T_and (ltb 0 (length S)) (leb (length S) most_sounds)).0 (parts u).0).1

  pub utterance-phones : T (is_utterance phones S) → T (every (is_phone phones) S)
  utterance-phones u = (parts u).1

  long-none : most_sounds < length S → is_utterance phones S ≡ false
  unfolding is_utterance
  long-none h = rw (lt-ltb 0 (length S) (omega arith), lt-leb (length S) most_sounds h)

-- "a sequence of more than 1000000 phones is 41 from now on"
pub long-refused : (header : Header) (tables : Tables) → T (tables_known header tables)
    → (S : List ℕ) → most_sounds < length S → (size : ℕ) → transcribe header tables S size ≡ refuse Utterance 0
unfolding transcribe judge
long-refused header tables known S h size =
    if-true (tables_known header tables) _ _ known ∙ rw (long-none header.phones S h)
