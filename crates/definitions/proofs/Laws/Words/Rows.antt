-- Laws about a word in a table, as 65 words of 32 bits: the records that the test for foreign word tables passes are
-- those of words of at most 64 phones, and each is read back as its word.
use Rattle.std.specs.Prelude.{◌≡◌, ◌↔◌, Bool, leb, eqb, length, take, drop}
use Rattle.std.proofs.Math.Path.{refl, sym, ap, ap₂}
use Rattle.std.proofs.Common.{◌∙◌, arith, take_at, drop_at}
use mathlib.Core.List.{List, [], ◌∷◌}
use Prim.Native.Nat.{ℕ, suc, ◌-◌, ◌≤◌}
use Rattle.std.proofs.Math.Dec.{T, le→leb}
use Rattle.std.proofs.Math.ListN.{length-drop}
use Rattle.std.proofs.Math.Seq.{length-take-le}
use Rattle.definitions.specs.Lists.{◌!◌, every, cleared, padded, IsIn}
use Rattle.definitions.specs.Forms.{most_places, most_phone}
use Rattle.definitions.specs.BookLines.{is_phone}
use Rattle.definitions.specs.ForeignTables.{holds_only}
use Rattle.definitions.specs.WordBooks.{word_size, word_words, word_in, word_known}
use Rattle.definitions.proofs.Laws.Lists.Tests.{T_and, between-and}
use Rattle.definitions.proofs.Laws.Lists.Lists.{padded-length, every-replicate}
use Rattle.definitions.proofs.Laws.Books.AcceptedKnown.{holds-padded}

-- a word that lines can say: it has some phones, at most 64, in their range
pub record IsWord (phones : List ℕ) : Type 0 where
  pub some_phone : 1 ≤ length phones
  pub few : length phones ≤ most_places
  pub ranged : T (every (is_phone most_phone) phones)

abbrev pub AllWords : List (List ℕ) → Type 0
AllWords words = (phones : List ℕ) → IsIn phones words → IsWord phones

-- ---- a word written

pub word-sized : (phones : List ℕ) → length phones ≤ most_places → length (word_words phones) ≡ word_size
unfolding word_words
word-sized phones h = padded-length word_size (length phones ∷ phones) (omega arith)

pub word-again : (phones : List ℕ) → word_in (word_words phones) ≡ phones
unfolding word_in word_words padded
word-again phones = take_at phones _ (length phones) refl

-- ---- the test of a record

module _ (row : List ℕ) where
  -- whether its phones are in their range, and whether there is nothing after them
  abbrev phones_ranged : Bool
  phones_ranged = every (is_phone most_phone) (word_in row)

  abbrev nothing_after : Bool
  nothing_after = every (λ rest. eqb rest 0) (drop (suc (row ! 0)) row)

  row-parts : T (word_known row) ↔ (((1 ≤ row ! 0) × (row ! 0 ≤ most_places)) × T phones_ranged × T nothing_after)
  unfolding word_known
  row-parts = between-and 1 (row ! 0) most_places phones_ranged nothing_after

pub word-known : (phones : List ℕ) → IsWord phones → T (word_known (word_words phones))
unfolding word_words padded
word-known phones w =
    let left : ℕ = word_size - length (length phones ∷ phones) in
    let zero : (ℕ → Bool) = λ rest. eqb rest 0 in
    (row-parts (word_words phones)).1 (
      (w.some_phone, w.few),
      rw (word-again phones) w.ranged,
      rw (drop_at phones (cleared left) (length phones) refl) (every-replicate zero left 0 tt),
    )

-- ---- a record read

module _ (row : List ℕ) (size : length row ≡ word_size) (known : T (word_known row)) where
  word-length : length (word_in row) ≡ row ! 0
  unfolding word_in
  word-length =
      let ((_, few), _, _) = (row-parts row).0 known in
      length-take-le (row ! 0) (drop 1 row) (rw length-drop (omega (arith, few, size)))

  pub row_word : IsWord (word_in row)
  row_word =
      let ((low, few), ranged, _) = (row-parts row).0 known in
      record { some_phone = rw word-length low; few = rw word-length few; ranged = ranged }

  -- its length and its phones
  row-begins : (l : List ℕ) → length l ≡ word_size → l ! 0 ∷ word_in l ≡ take (suc (l ! 0)) l
  unfolding word_in
  row-begins [] e = absurd (omega arith)
  row-begins (n ∷ l) e = refl

  pub row-again : word_words (word_in row) ≡ row
  unfolding word_words holds_only
  row-again =
      let ((_, few), _, rest) = (row-parts row).0 known in
      let used : ℕ = suc (row ! 0) in
      let room : T (leb used (length row)) = le→leb used (length row) (omega (arith, few, size)) in
      let (_, whole) = holds-padded used row ((T_and (leb used (length row)) (nothing_after row)).1 (room, rest)) in
      ap (λ (n : ℕ). padded word_size (n ∷ word_in row)) word-length
      ∙ ap₂ padded (sym size) (row-begins row size) ∙ sym whole
