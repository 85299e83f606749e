-- Laws about the words of a table: each stands in its record, its length before its phones, and 0 after them.
use Rattle.std.specs.Prelude.{◌≡◌, ℕ, suc, ◌+◌, ◌-◌, ◌*◌, ◌/◌, ◌≤◌, ◌<◌, T, length, take, drop}
use Rattle.std.proofs.Math.Path.{sym, ap}
use Rattle.std.proofs.Common.{◌∙◌, subst, arith, length-drop, length-take-le}
use mathlib.Core.List.{List, [], ◌∷◌}
use Rattle.std.proofs.Math.ListN.{get_or-eq_default}
use Rattle.definitions.specs.Lists.{◌!◌, records}
use Rattle.definitions.specs.Forms.{most_phone, most_places}
use Rattle.definitions.specs.BookLines.{is_phone}
use Rattle.definitions.specs.WordBooks.{word_size, word_words, word_in, words_in, word_known}
use Rattle.definitions.specs.Joining.{phones_in}
use Rattle.definitions.proofs.Laws.Lists.Lists.{part_at}
use Rattle.definitions.proofs.Laws.Lists.Records.{record-within, records-length, record-at, read_at}
use Rattle.definitions.proofs.Laws.Lists.Tests.{between, every-at}
use Rattle.definitions.proofs.Laws.Matrices.SevenWords.{padded-column}
use Rattle.definitions.proofs.Laws.Words.Rows.{row_word, row-again}
use Rattle.definitions.proofs.Laws.Words.WordTables.{held-length}
use Rattle.marks.specs.Lexicon.{spelled, Lexicon}
use Rattle.marks.specs.Wanting.{IsWord}

pub spelled-length : (words : List ℕ) → length (spelled words) ≡ length words / word_size
spelled-length words = held-length (length words / word_size) words

-- there is no such word
pub word-past : (words : List ℕ) (word mark : ℕ) → length words / word_size < word
    → phones_in (spelled words) word ! mark ≡ 0
word-past words word mark h =
    ap (λ (phones : List ℕ). phones ! mark)
    (get_or-eq_default (spelled words) [] (rw (spelled-length words) (omega arith)))

module _ {words : List ℕ} (lexicon : Lexicon words) {word : ℕ} (own : IsWord words word) where
  -- how many words there are, where this one begins, its record and its phones
  abbrev count : ℕ
  count = length words / word_size

  abbrev word_start : ℕ
  word_start = word_size * (word - 1)

  abbrev row : List ℕ
  row = take word_size (drop word_start words)

  abbrev phones : List ℕ
  phones = phones_in (spelled words) word

  listed : word - 1 < count
  listed = omega (arith, own.low, own.high)

  -- ---- its record

  pub word-within : word_start + word_size ≤ length words
  word-within = record-within word_size (word - 1) listed

  row_sized : length row ≡ word_size
  row_sized = length-take-le word_size (drop word_start words) (rw length-drop (omega (arith, word-within)))

  row-known : T (word_known row)
  row-known =
      subst (λ (r : List ℕ). T (word_known r)) (record-at word_size count words (word - 1) listed)
      (every-at word_known (records word_size count words) [] lexicon.known (word - 1) (rw records-length listed))

  phones-row : phones ≡ word_in row
  unfolding words_in
  phones-row = read_at word_size word_in count words [] (word - 1) listed

  -- what stands in it
  word_at : (i : ℕ) → i < word_size → words ! (word_start + i) ≡ (length phones ∷ phones) ! i
  unfolding word_words
  word_at i h =
      sym (part_at word_size word_start words i 0 h)
      ∙ ap (λ (r : List ℕ). r ! i) (sym (ap word_words phones-row ∙ row-again row row_sized row-known))
      ∙ padded-column word_size (length phones ∷ phones) i

  -- ---- its length and its phones

  pub word-length : words ! word_start ≡ length phones
  word-length = subst (λ (i : ℕ). words ! i ≡ length phones) {x = word_start + 0} {y = word_start} (omega arith)
      (word_at 0 (omega arith))

  -- also beyond its length, where both are 0
  pub word-phone : (mark : ℕ) → mark < most_places → words ! (word_start + 1 + mark) ≡ phones ! mark
  word-phone mark h =
      subst (λ (i : ℕ). words ! i ≡ phones ! mark) {x = word_start + suc mark} {y = word_start + 1 + mark} (omega arith)
      (word_at (suc mark) (omega arith))

  pub word_some : 1 ≤ length phones
  word_some = rw phones-row (row_word row row_sized row-known).some_phone

  -- no word has more than 64
  pub phone-past : (mark : ℕ) → most_places ≤ mark → phones ! mark ≡ 0
  phone-past mark h =
      let few : length phones ≤ most_places = rw phones-row (row_word row row_sized row-known).few in
      get_or-eq_default phones 0 (omega (arith, few, h))

  pub phone-ranged : (mark : ℕ) → mark < length phones → (1 ≤ phones ! mark) × (phones ! mark ≤ most_phone)
  unfolding is_phone
  phone-ranged mark h =
      (between 1 (phones ! mark) most_phone).0
      (every-at (is_phone most_phone) phones 0 (rw phones-row (row_word row row_sized row-known).ranged) mark h)
