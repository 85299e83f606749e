-- Laws about words written as lines: they pass their tests one by one, and say these words again.
-- The idea: the lines of a word are its places in order, those of the next word follow them; so each comes next after
-- those before it, and the lines of one word are the only ones of its number.
use Rattle.std.specs.Prelude.{◌≡◌, ℕ, suc, ◌+◌, ◌≤◌, ◌<◌, T, length}
use Rattle.std.proofs.Math.Path.{refl, ap}
use Rattle.std.proofs.Common.{sym, ap₂, ◌∙◌, inl, inr, ⊎_elim, arith}
use mathlib.Core.List.{List, [], ◌∷◌, ◌++◌, map, append_assoc, append-nil}
use Rattle.std.proofs.Math.Seq.{append_snoc}
use Rattle.definitions.specs.Lists.{every, up_from, IsIn}
use Rattle.definitions.specs.Forms.{most_words, most_places, most_phone}
use Rattle.definitions.specs.BookLines.{is_phone}
use Rattle.definitions.specs.WordBooks.{WordLine, last_line, comes_next, word_count, phones_said, words_of}
use Rattle.definitions.proofs.Laws.Lists.Lists.{every-cons}
use Rattle.definitions.proofs.Laws.Lists.Members.{of-append, of-up_from, map_same}
use Rattle.definitions.proofs.Laws.Text.Ranges.{phone_range}
use Rattle.definitions.proofs.Laws.Text.WrittenTexts.{AllNext, next-parts}
use Rattle.definitions.proofs.Laws.Words.WordsSaid.{last_more, said-append, said-none, said-first}
use Rattle.definitions.proofs.Laws.Words.WordLines.{next-line, Fits, word_writer, fits_next}
use Rattle.definitions.proofs.Laws.Words.Rows.{IsWord, AllWords}

abbrev line_at : (word place phone : ℕ) → WordLine
line_at word place phone = record { word = word; place = place; phone = phone }

-- the lines of a word from a place on, and of words from a number on
abbrev places_from : (word place : ℕ) → (phones : List ℕ) → List WordLine
places_from word place [] = []
places_from word place (phone ∷ phones) = line_at word place phone ∷ places_from word (suc place) phones

abbrev lines_from : (word : ℕ) → (words : List (List ℕ)) → List WordLine
lines_from word [] = []
lines_from word (phones ∷ words) = places_from word 1 phones ++ lines_from (suc word) words

abbrev pub word_lines : (words : List (List ℕ)) → List WordLine
word_lines words = lines_from 1 words

-- ---- the last line

-- after the lines of a word
last-place : (word place : ℕ) (before : List WordLine) (phones : List ℕ) → 1 ≤ length phones
    → (last_line (before ++ places_from word place phones)).word ≡ word
last-place word place before [] some = absurd (omega arith)
last-place word place before (phone ∷ []) some =
    ap (λ (line : WordLine). line.word) (last_more before (line_at word place phone))
last-place word place before (phone ∷ next ∷ phones) some =
    let line : WordLine = line_at word place phone in
    ap (λ (lines : List WordLine). (last_line lines).word)
    (sym (append_snoc before line (places_from word (suc place) (next ∷ phones))))
    ∙ last-place word (suc place) (before ++ (line ∷ [])) (next ∷ phones) (omega arith)

-- after the lines of all words
last_word : (word : ℕ) (before : List WordLine) (words : List (List ℕ)) → AllWords words
    → (last_line before).word + 1 ≡ word → (last_line (before ++ lines_from word words)).word + 1 ≡ word + length words
last_word word before [] all w = rw append-nil (omega arith)
last_word word before (phones ∷ words) all w =
    let places : List WordLine = places_from word 1 phones in
    let last = last-place word 1 before phones (all phones (inl refl)).some_phone in
    ap (λ (lines : List WordLine). (last_line lines).word + 1)
    (sym (append_assoc before places (lines_from (suc word) words)))
    ∙ last_word (suc word) (before ++ places) words (λ other i. all other (inr i)) (omega (arith, last))
    ∙ omega arith

-- ---- they pass their tests

module _ (lent word : ℕ) (low : 1 ≤ word) (high : word ≤ most_words) where
  -- the lines of a word from a place on, where such a line comes next
  places-next : (before : List WordLine) (place : ℕ) (phones : List ℕ) → 1 ≤ place
      → place + length phones ≤ most_places + 1
      → T (every (is_phone most_phone) phones) → ((phone : ℕ) → T (comes_next (last_line before) (line_at word place phone)))
      → AllNext (word_writer lent) before (places_from word place phones)
  places-next before place [] one few ranged next = tt
  places-next before place (phone ∷ phones) one few ranged next =
      let line : WordLine = line_at word place phone in
      let (own, others) = (every-cons (is_phone most_phone) phone phones).0 ranged in
      let (phone_low, phone_high) = (phone_range most_phone phone).0 own in
      let fits : Fits (last_line before) line = record {
        word_range = record { low = low; high = high };
        place_range = record { low = one; high = omega arith };
        phone_range = record { low = phone_low; high = phone_high };
        next = next phone;
      } in
      let after : (other : ℕ) → T (comes_next (last_line (before ++ (line ∷ []))) (line_at word (suc place) other)) =
      λ other. rw (last_more before line) ((next-line line (line_at word (suc place) other)).1 (inl (refl, refl))) in (
        fits_next lent before line fits,
        places-next (before ++ (line ∷ [])) (suc place) phones (omega arith) (omega arith) others after,
      )

words-next : (lent word : ℕ) (before : List WordLine) (words : List (List ℕ)) → AllWords words
    → (last_line before).word + 1 ≡ word → word + length words ≤ most_words + 1
    → AllNext (word_writer lent) before (lines_from word words)
words-next lent word before [] all w few = tt
words-next lent word before (phones ∷ words) all w few =
    let own : IsWord phones = all phones (inl refl) in
    let places : List WordLine = places_from word 1 phones in
    let first : (phone : ℕ) → T (comes_next (last_line before) (line_at word 1 phone)) =
    λ phone. (next-line (last_line before) (line_at word 1 phone)).1 (inr (omega arith, refl)) in
    let last = last-place word 1 before phones own.some_phone in
    next-parts (word_writer lent) before places (lines_from (suc word) words)
    (places-next lent word (omega arith) (omega arith) before 1 phones (omega arith) (omega (arith, own.few))
    own.ranged first)
    (words-next lent (suc word) (before ++ places) words (λ other i. all other (inr i)) (omega (arith, last))
    (omega arith))

-- ---- they say the words again

-- the lines of a word are of its number, those after it of greater ones
of_places : (word place : ℕ) (phones : List ℕ) (line : WordLine) → IsIn line (places_from word place phones)
    → line.word ≡ word
of_places word place [] line i = absurd i
of_places word place (phone ∷ phones) line (inl e) = ap (λ (l : WordLine). l.word) e
of_places word place (phone ∷ phones) line (inr i) = of_places word (suc place) phones line i

of-lines : (word : ℕ) (words : List (List ℕ)) (line : WordLine) → IsIn line (lines_from word words)
    → word ≤ line.word
of-lines word [] line i = absurd i
of-lines word (phones ∷ words) line i =
    ⊎_elim (λ j. omega (arith, of_places word 1 phones line j)) (λ j. omega (arith, of-lines (suc word) words line j))
    (of-append line (places_from word 1 phones) (lines_from (suc word) words) i)

said-places : (word place : ℕ) (phones : List ℕ) → phones_said (places_from word place phones) word ≡ phones
said-places word place [] = said-none [] word (λ line i. absurd i)
said-places word place (phone ∷ phones) =
    said-first (line_at word place phone) (places_from word (suc place) phones) word refl
    ∙ ap (λ (l : List ℕ). phone ∷ l) (said-places word (suc place) phones)

module _ (word : ℕ) (phones : List ℕ) (words : List (List ℕ)) where
  said_here : phones_said (lines_from word (phones ∷ words)) word ≡ phones
  said_here =
      said-append (places_from word 1 phones) (lines_from (suc word) words) word
      ∙ ap₂ ◌++◌ (said-places word 1 phones)
      (said-none (lines_from (suc word) words) word (λ line i e. omega (arith, of-lines (suc word) words line i)))
      ∙ append-nil phones

  said-later : (other : ℕ) → word < other
      → phones_said (lines_from word (phones ∷ words)) other ≡ phones_said (lines_from (suc word) words) other
  said-later other h =
      said-append (places_from word 1 phones) (lines_from (suc word) words) other
      ∙ ap (λ (l : List ℕ). l ++ phones_said (lines_from (suc word) words) other)
      (said-none (places_from word 1 phones) other (λ line i e. omega (arith, of_places word 1 phones line i)))

said_all : (word : ℕ) (words : List (List ℕ))
    → map (phones_said (lines_from word words)) (up_from word (length words)) ≡ words
unfolding up_from
said_all word [] = refl
said_all word (phones ∷ words) =
    ap₂ ◌∷◌ (said_here word phones words)
    (map_same (phones_said (lines_from word (phones ∷ words))) (phones_said (lines_from (suc word) words))
    (up_from (suc word) (length words))
    (λ other i. said-later word phones words other (omega (arith, of-up_from (suc word) (length words) other i)))
    ∙ said_all (suc word) words)

-- ---- the lines of all words

module _ (words : List (List ℕ)) (all : AllWords words) where
  pub lines-count : word_count (word_lines words) ≡ length words
  unfolding word_count last_line
  lines-count = omega (arith, last_word 1 [] words all refl)

  pub lines-words : words_of (word_lines words) ≡ words
  unfolding words_of
  lines-words = ap (λ (n : ℕ). map (phones_said (word_lines words)) (up_from 1 n)) lines-count ∙ said_all 1 words

  pub lines_next : (lent : ℕ) → length words ≤ most_words → AllNext (word_writer lent) [] (word_lines words)
  unfolding last_line
  lines_next lent few = words-next lent 1 [] words all refl (omega arith)
