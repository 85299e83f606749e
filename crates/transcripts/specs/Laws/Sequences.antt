-- Laws about the test of an utterance, one for each part of it: a phone, not too many, phones alone, silence first,
-- silence last.
use Rattle.std.specs.Prelude.{◌≡◌, List, true, false, ℕ, ◌-◌, ◌≤◌, ◌<◌, eqb, length}
use Rattle.std.proofs.Common.{arith}
use borrow.Author.Tests.{lt-ltb, le-ltb, le-leb, lt-leb, eq-eqb, ne_eqb}
use Rattle.definitions.specs.Lists.{◌!◌, every}
use Rattle.definitions.specs.BookLines.{is_phone}
use Rattle.definitions.specs.TreesGive.{silent_ends}
use Rattle.definitions.specs.Transcription.{most_sounds, is_utterance}

module _ (phones : ℕ) (S : List ℕ) where
  pub no-phone : length S ≡ 0 → is_utterance phones S ≡ false
  unfolding is_utterance
  no-phone e = rw (le-ltb 0 (length S) (omega arith))

  pub many-phones : 0 < length S → most_sounds < length S → is_utterance phones S ≡ false
  unfolding is_utterance
  many-phones some h = rw (lt-ltb 0 (length S) some, lt-leb (length S) most_sounds h)

  module _ (some_phone : 0 < length S) (few : length S ≤ most_sounds) where
    pub other-phones : every (is_phone phones) S ≡ false → is_utterance phones S ≡ false
    unfolding is_utterance
    other-phones e = rw (lt-ltb 0 (length S) some_phone, le-leb (length S) most_sounds few, e)

    module _ (all : every (is_phone phones) S ≡ true) where
      pub other-start : (S ! 0 ≡ 1 → ⊥) → is_utterance phones S ≡ false
      unfolding is_utterance silent_ends
      other-start n =
          rw (lt-ltb 0 (length S) some_phone, le-leb (length S) most_sounds few, all, ne_eqb (S ! 0) 1 n)

      pub by_end : S ! 0 ≡ 1 → is_utterance phones S ≡ eqb (S ! (length S - 1)) 1
      unfolding is_utterance silent_ends
      by_end e = rw (lt-ltb 0 (length S) some_phone, le-leb (length S) most_sounds few, all, eq-eqb (S ! 0) 1 e)
