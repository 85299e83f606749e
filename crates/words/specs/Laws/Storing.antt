-- Laws about putting a line's phone into the table, as the code does it: by the number of words before its own, and by
-- the place counted from 0.
use Rattle.std.specs.Prelude.{◌≡◌, List, ℕ, ◌+◌, ◌-◌, ◌*◌, ◌/◌, ◌≤◌, ◌<◌, length, set}
use native.Mathlib.Omega.{arith}
use borrow.Author.Tests.{lt-ltb, le-ltb}
use Rattle.definitions.specs.WordBooks.{WordLine, word_size}
use Rattle.words.specs.Storing.{phone_put, words_after}

module _ (line : WordLine) (table : List ℕ) {before : ℕ} (e : before ≡ line.word - 1) where
  pub after-past : length table / word_size ≤ before → table ≡ words_after line table
  unfolding words_after
  after-past h = rw (← e, le-ltb before (length table / word_size) h)

  pub after-room : before < length table / word_size → 1 ≤ line.place → {place : ℕ} → place ≡ line.place - 1
      → set (set table (word_size * before) line.place) (word_size * before + 1 + place) line.phone
      ≡ words_after line table
  unfolding words_after phone_put
  after-room h l {place} p =
      let there : word_size * before + 1 + place ≡ word_size * before + line.place = omega arith in
      rw (← e, lt-ltb before (length table / word_size) h, there)
