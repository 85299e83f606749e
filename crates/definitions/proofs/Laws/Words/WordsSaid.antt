-- Laws about the words that the lines of a word book say, in lines one after the other and with one line more.
-- The idea: a line adds its phone to its own word, whether that has phones or not, and leaves the others as they were.
use Rattle.std.specs.Prelude.{◌≡◌, refl, List, [], ◌∷◌, ◌++◌, map, Bool, ℕ, ◌+◌, ◌-◌, ◌≤◌, eqb, length}
use Rattle.std.proofs.Common.{sym, ap, ap₂, ◌∙◌, append-nil, arith, eq-eqb, ne_eqb}
use Rattle.std.proofs.lemmas.List.{map-append}
use Rattle.definitions.specs.Lists.{select, up_from, IsIn}
use Rattle.definitions.specs.WordBooks.{WordLine, last_line, word_count, phones_said, words_of}
use Rattle.definitions.proofs.Laws.Lists.Lists.{up_from-snoc, map-up_from-length}
use Rattle.definitions.proofs.Laws.Lists.Members.{of-single, of-up_from, map_same}
use Rattle.definitions.proofs.Laws.Lists.Selected.{select-here, select-append, select-none}

-- ---- the last line

pub last_more : (lines : List WordLine) (line : WordLine) → last_line (lines ++ (line ∷ [])) ≡ line
unfolding last_line
last_more [] line = refl
last_more (first ∷ []) line = refl
last_more (first ∷ next ∷ lines) line = last_more (next ∷ lines) line

pub count-more : (lines : List WordLine) (line : WordLine) → word_count (lines ++ (line ∷ [])) ≡ line.word
unfolding word_count
count-more lines line = ap (λ (l : WordLine). l.word) (last_more lines line)

-- ---- the phones of a word

-- in lines one after the other
pub said-append : (k l : List WordLine) (word : ℕ)
    → phones_said (k ++ l) word ≡ phones_said k word ++ phones_said l word
unfolding phones_said
said-append k l word =
    let own : (WordLine → Bool) = λ line. eqb line.word word in
    ap (map (λ (line : WordLine). line.phone)) (select-append own k l)
    ∙ map-append (λ (line : WordLine). line.phone) (select own k) (select own l)

-- lines of which none is of the word
pub said-none : (lines : List WordLine) (word : ℕ) → ((line : WordLine) → IsIn line lines → line.word ≡ word → ⊥)
    → phones_said lines word ≡ []
unfolding phones_said
said-none lines word none =
    ap (map (λ (line : WordLine). line.phone))
    (select-none (λ line. eqb line.word word) lines (λ line i. ne_eqb line.word word (none line i)))

-- a line of the word, and others after it
pub said-first : (line : WordLine) (lines : List WordLine) (word : ℕ) → line.word ≡ word
    → phones_said (line ∷ lines) word ≡ line.phone ∷ phones_said lines word
unfolding phones_said
said-first line lines word e =
    ap (map (λ (line : WordLine). line.phone))
    (select-here (λ line. eqb line.word word) line lines (eq-eqb line.word word e))

-- ---- all words

pub words-length : (lines : List WordLine) → length (words_of lines) ≡ word_count lines
unfolding words_of
words-length lines = map-up_from-length (phones_said lines) 1 (word_count lines)

-- the words before one
abbrev pub words_before : List WordLine → (word : ℕ) → List (List ℕ)
words_before lines word = map (phones_said lines) (up_from 1 (word - 1))

-- with the last they are all
pub words-parts : (lines : List WordLine) {word : ℕ} → word_count lines ≡ word → 1 ≤ word
    → words_of lines ≡ words_before lines word ++ (phones_said lines word ∷ [])
unfolding words_of
words-parts lines {word} e h =
    let again : word_count lines ≡ word - 1 + 1 = omega arith in
    let last : 1 + (word - 1) ≡ word = omega arith in
    rw (again, up_from-snoc 1 (word - 1), last, map-append)

-- ---- one line more

module _ (lines : List WordLine) (line : WordLine) where
  pub said_more : phones_said (lines ++ (line ∷ [])) line.word
      ≡ phones_said lines line.word ++ (line.phone ∷ [])
  said_more =
      let others : phones_said [] line.word ≡ [] = said-none [] line.word (λ l i. absurd i) in
      said-append lines (line ∷ []) line.word ∙ rw (said-first line [] line.word refl, others)

  said_same : (word : ℕ) → (line.word ≡ word → ⊥) → phones_said (lines ++ (line ∷ [])) word ≡ phones_said lines word
  said_same word other =
      said-append lines (line ∷ []) word
      ∙ ap (λ (l : List ℕ). phones_said lines word ++ l)
      (said-none (line ∷ []) word (λ l i e. other (sym (ap (λ (l : WordLine). l.word) (of-single line l i)) ∙ e)))
      ∙ append-nil (phones_said lines word)

  -- the words before the line's stay as they were, and its own is one phone longer
  pub words_more : 1 ≤ line.word
      → words_of (lines ++ (line ∷ []))
      ≡ words_before lines line.word ++ ((phones_said lines line.word ++ (line.phone ∷ [])) ∷ [])
  words_more h =
      let all : List WordLine = lines ++ (line ∷ []) in
      let before : List ℕ = up_from 1 (line.word - 1) in
      words-parts all (count-more lines line) h
      ∙ ap₂ (λ (words : List (List ℕ)) (own : List ℕ). words ++ (own ∷ []))
      (map_same (phones_said all) (phones_said lines) before
      (λ word i. said_same word (λ e. omega (arith, of-up_from 1 (line.word - 1) word i)))) said_more
