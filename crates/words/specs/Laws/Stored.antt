-- Laws about what is stored: each line that comes next brings the lent table from what the lines before it leave to
-- what the lines with it leave. The idea: a record of zeros is the record of a word without phones, so a line that
-- begins a word is one phone more, as every other line is.
use Rattle.std.specs.Prelude.{◌≡◌, refl, ltb, drop}
use Rattle.std.proofs.Common.{sym, ◌∙◌, subst, zero-add, suc-add, add-one, take-append-drop, ltb-true, ltb-false}
use Rattle.std.proofs.Math.Path.{ap}
use Rattle.std.proofs.Math.Logic.{⊎_elim}
use mathlib.Core.List.{List, [], ◌∷◌, ◌++◌, append_assoc}
use Prim.Native.Nat.{ℕ, suc, ◌+◌, ◌-◌, ◌*◌, ◌/◌, ◌≤◌, ◌<◌}
use Rattle.std.proofs.Math.Nat.{add-zero}
use native.Mathlib.Omega.{arith}
use Rattle.std.proofs.Math.ListN.{length, take, set, length-append, length-set, length-take}
use Rattle.std.proofs.lemmas.List.{set_at}
use Rattle.std.proofs.Math.Seq.{append_snoc, take-nil, take_all, take-append-le}
use Rattle.definitions.specs.Forms.{most_places}
use Rattle.definitions.specs.Lists.{concat_map, up_from, cleared, padded, IsIn}
use Rattle.definitions.specs.WordBooks.{WordLine, last_line, word_count, phones_said, words_of, word_size, word_words}
use Rattle.definitions.proofs.Laws.Lists.Lists.{concat_map-snoc, padded-none, padded-length, map-up_from-length}
use Rattle.definitions.proofs.Laws.Lists.Members.{in_left}
use Rattle.definitions.proofs.Laws.Lists.Tests.{by-test}
use Rattle.definitions.proofs.Laws.Words.OneMore.{InOrder, words-begun, place-own, before-words}
use Rattle.definitions.proofs.Laws.Words.Rows.{AllWords, word-sized}
use Rattle.definitions.proofs.Laws.Words.WordLines.{Fits}
use Rattle.definitions.proofs.Laws.Words.WordTables.{words_size}
use Rattle.definitions.proofs.Laws.Words.WordsSaid.{words-length, words_before, words_more}
use Rattle.lines.specs.Laws.Putting.{padded-set, padded-zeros}
use Rattle.words.specs.Storing.{phone_put, words_after, words_stored}

-- ---- the record of a word

-- with one phone more
record-more : (phones : List ℕ) (phone : ℕ) → length phones < most_places
    → set (set (word_words phones) 0 (suc (length phones))) (suc (length phones)) phone
    ≡ word_words (phones ++ (phone ∷ []))
unfolding word_words padded
record-more phones phone h =
    let count : ℕ = length phones in
    let zero-there : word_size - suc count ≡ suc (most_places - suc count) = omega arith in
    let more : length (phones ++ (phone ∷ [])) ≡ suc count = length-append phones (phone ∷ []) ∙ add-one count in
    let fewer : word_size - suc (suc count) ≡ most_places - suc count = omega arith in
    rw (zero-there, set_at phones 0 (cleared (most_places - suc count)) phone count refl, more, fewer)
    (ap (λ (l : List ℕ). suc count ∷ l) (sym (append_snoc phones phone (cleared (most_places - suc count)))))

-- words after others, one changed
set-behind : (front back : List ℕ) (i x : ℕ) → set (front ++ back) (length front + i) x ≡ front ++ set back i x
set-behind [] back i x = rw zero-add
set-behind (y ∷ front) back i x = rw suc-add (ap (λ (l : List ℕ). y ∷ l) (set-behind front back i x))

-- ---- the last record of a table

module _ (lent : ℕ) (words : List (List ℕ)) (all : AllWords words) where
  phone-more : (phones : List ℕ) (phone : ℕ) → length phones < most_places
      → phone_put (length words) (suc (length phones)) phone
      (padded lent (concat_map word_words (words ++ (phones ∷ []))))
      ≡ padded lent (concat_map word_words (words ++ ((phones ++ (phone ∷ [])) ∷ [])))
  unfolding phone_put
  phone-more phones phone h =
      let front : List ℕ = concat_map word_words words in
      let own : List ℕ = word_words phones in
      let count : ℕ = suc (length phones) in
      let size : length (front ++ own) ≡ length front + word_size =
      length-append front own ∙ ap (λ (n : ℕ). length front + n) (word-sized phones (omega arith)) in
      let first : set (padded lent (front ++ own)) (length front) count ≡ padded lent (front ++ set own 0 count) =
      padded-set lent (front ++ own) (length front) count (omega arith)
      ∙ ap (padded lent) (rw add-zero at (set-behind front own 0 count)) in
      let sized : length (front ++ set own 0 count) ≡ length front + word_size =
      length-append front (set own 0 count) ∙ rw length-set (sym (length-append front own) ∙ size) in
      rw (
        concat_map-snoc word_words words phones,
        concat_map-snoc word_words words (phones ++ (phone ∷ [])),
        ← words_size words all,
      )
      (ap (λ (l : List ℕ). set l (length front + count) phone) first
      ∙ padded-set lent (front ++ set own 0 count) (length front + count) phone (omega arith)
      ∙ ap (padded lent) (set-behind front (set own 0 count) count phone
      ∙ ap (λ (l : List ℕ). front ++ l) (record-more phones phone h)))

  -- a word without phones is zeros
  phones-none : word_size * length words + word_size ≤ lent
      → padded lent (concat_map word_words (words ++ ([] ∷ []))) ≡ padded lent (concat_map word_words words)
  unfolding word_words padded
  phones-none h =
      let front : List ℕ = concat_map word_words words in
      let room : word_size ≤ lent - length front = omega (arith, words_size words all) in
      let left : lent - (length front + word_size) ≡ lent - length front - word_size = omega arith in
      rw (concat_map-snoc word_words words [], length-append front (cleared word_size), left)
      (append_assoc front (cleared word_size) (cleared (lent - length front - word_size))
      ∙ ap (λ (l : List ℕ). front ++ l) (padded-zeros (lent - length front) word_size room))

-- ---- what lines leave in a table

module _ (lent : ℕ) where
  pub stored-none : words_stored lent [] ≡ cleared lent
  unfolding words_stored words_of word_count last_line up_from concat_map
  stored-none = rw (take-nil {A = List ℕ} (lent / word_size)) (sym (padded-none lent))

  -- all words, where the table has records for them
  stored-all : (lines : List WordLine) {words : List (List ℕ)} → words_of lines ≡ words
      → length words ≤ lent / word_size → words_stored lent lines ≡ padded lent (concat_map word_words words)
  unfolding words_stored
  stored-all lines {words} e h = rw (e, take_all (lent / word_size) words h)

  pub stored-counted : (lines : List WordLine) → word_count lines ≤ lent / word_size
      → words_stored lent lines ≡ padded lent (concat_map word_words (words_of lines))
  stored-counted lines h = stored-all lines refl (rw (words-length lines) h)

  pub stored-length : {lines : List WordLine} → InOrder lines → length (words_stored lent lines) ≡ lent
  unfolding words_stored
  stored-length {lines} o =
      let room : ℕ = lent / word_size in
      let words : List (List ℕ) = words_of lines in
      let all : AllWords (take room words) =
      λ w i. o.words w
      (subst (IsIn w) (take-append-drop room words) (in_left w (take room words) (drop room words) i)) in
      padded-length lent (concat_map word_words (take room words))
      (omega (arith, words_size (take room words) all, length-take room words))

-- ---- one line more

module _ (lent : ℕ) {lines : List WordLine} {line : WordLine} (o : InOrder lines) (f : Fits (last_line lines) line) where
  abbrev before : ℕ
  before = line.word - 1

  abbrev others : List (List ℕ)
  others = words_before lines line.word

  abbrev phones : List ℕ
  phones = phones_said lines line.word

  others-count : length others ≡ before
  others-count = map-up_from-length (phones_said lines) 1 before

  one_more : (w : List ℕ) → length (others ++ (w ∷ [])) ≡ suc before
  one_more w = length-append others (w ∷ []) ∙ omega (arith, others-count)

  -- what a table of these words holds
  abbrev held : List (List ℕ) → List ℕ
  held words = padded lent (concat_map word_words words)

  -- the table has a record for the line's word
  stored-begun : before < lent / word_size → words_stored lent lines ≡ held (others ++ (phones ∷ []))
  stored-begun h =
      ⊎_elim
      (λ e. stored-all lent lines e (rw (one_more phones) h))
      (λ (e, none). stored-all lent lines e (rw others-count (omega arith))
      ∙ rw none (sym (phones-none lent others (before-words o f) (omega (arith, others-count))))) (words-begun o f)

  stored-room : before < lent / word_size
      → phone_put before line.place line.phone (words_stored lent lines) ≡ words_stored lent (lines ++ (line ∷ []))
  stored-room h =
      let few : length phones < most_places = omega (arith, place-own o f, f.place_range.high) in
      let after = phone-more lent others (before-words o f) phones line.phone few in
      rw (stored-begun h, place-own o f) (rw others-count at after)
      ∙ sym (stored-all lent (lines ++ (line ∷ [])) (words_more lines line f.word_range.low)
      (rw (one_more (phones ++ (line.phone ∷ []))) h))

  -- the table has none
  stored_past : lent / word_size ≤ before → words_stored lent lines ≡ words_stored lent (lines ++ (line ∷ []))
  unfolding words_stored
  stored_past h =
      let room : ℕ = lent / word_size in
      let kept : (w : List ℕ) → take room (others ++ (w ∷ [])) ≡ take room others =
      λ w. take-append-le room others (w ∷ []) (rw others-count h) in
      let first : take room (words_of lines) ≡ take room others =
      ⊎_elim (λ e. rw e (kept phones)) (λ (e, _). ap (take room) e) (words-begun o f) in
      rw (first, words_more lines line f.word_range.low, kept (phones ++ (line.phone ∷ [])))

  pub stored_more : words_after line (words_stored lent lines) ≡ words_stored lent (lines ++ (line ∷ []))
  unfolding words_after
  stored_more =
      let room : ℕ = lent / word_size in
      rw (stored-length lent o)
      (by-test (ltb before room) (λ e. rw e (stored-room (ltb-true before room e)))
      (λ e. rw e (stored_past (ltb-false before room e))))
