-- The words of a table that the test for foreign tables passes are speakable: each has a phone, and none is 0.
use Rattle.std.specs.Prelude.{List, [], false, ◌≡◌, ℕ, ◌-◌, T, eqb}
use Rattle.std.proofs.Common.{arith, ne_eqb}
use Rattle.definitions.specs.Lists.{◌!◌}
use Rattle.definitions.specs.Forms.{most_phone}
use Rattle.definitions.specs.BookLines.{is_phone}
use Rattle.definitions.specs.WordBooks.{words_in, words_known}
use Rattle.definitions.specs.Joining.{phones_in, is_word}
use Rattle.definitions.proofs.Laws.Lists.Tests.{every-at}
use Rattle.definitions.proofs.Laws.Lists.Members.{in-at}
use Rattle.definitions.proofs.Laws.Text.Ranges.{phone_range}
use Rattle.definitions.proofs.Laws.Words.Rows.{IsWord}
use Rattle.definitions.proofs.Laws.Words.WordTables.{held-words}
use Rattle.definitions.proofs.Joined.Automaton.{Speakable, word_range}

module _ (count : ℕ) (table : List ℕ) (known : T (words_known count table)) where
  abbrev words : List (List ℕ)
  words = words_in count table

  own : (w : ℕ) → T (is_word words w) → IsWord (phones_in words w)
  own w h =
      let (low, high) = word_range words w h in
      held-words count table known (phones_in words w) (in-at words (w - 1) [] (omega arith))

  pub words-speakable : Speakable (words_in count table)
  words-speakable = record {
    some_phone = λ w h. (own w h).some_phone;
    sounds = λ w m h l.
        let heard = every-at (is_phone most_phone) (phones_in words w) 0 (own w h).ranged m l in
        let (some, most) = (phone_range most_phone (phones_in words w ! m)).0 heard in
        let other : eqb (phones_in words w ! m) 0 ≡ false = ne_eqb (phones_in words w ! m) 0 (λ e. omega arith) in
        rw other tt;
  }
