-- Laws about lines of a word book that passed their tests one after the other, and one line more.
-- The idea: a line that comes next is of the last word, or of a new one, which has no phones so far; so both are one
-- phone more. The reader and the laws about accepted word books use it.
use Rattle.std.specs.Prelude.{◌≡◌, refl, ◌⊎◌, length}
use Rattle.std.proofs.Common.{sym, ap, ◌∙◌, subst}
use Rattle.std.proofs.Math.Logic.{inl, inr, ⊎_elim}
use mathlib.Core.List.{List, [], ◌∷◌, ◌++◌}
use Prim.Native.Nat.{ℕ, suc, ◌-◌, ◌≤◌, ◌<◌}
use native.Mathlib.Omega.{arith}
use Rattle.std.proofs.Math.Dec.{T}
use Rattle.std.proofs.Math.ListN.{length-append}
use Rattle.definitions.specs.Lists.{every, select, up_from, IsIn}
use Rattle.definitions.specs.Forms.{most_words, most_phone}
use Rattle.definitions.specs.BookLines.{is_phone}
use Rattle.definitions.specs.WordBooks.{WordLine, last_line, word_count, phones_said, words_of}
use Rattle.definitions.proofs.Laws.Lists.Lists.{every-cons, every-parts}
use Rattle.definitions.proofs.Laws.Lists.Members.{in_left, in_right, of-append, of-single}
use Rattle.definitions.proofs.Laws.Text.Ranges.{phone_range}
use Rattle.definitions.proofs.Laws.Words.WordsSaid.{last_more, count-more, said-none, words_before, words-parts}
use Rattle.definitions.proofs.Laws.Words.WordsSaid.{said_more, words_more}
use Rattle.definitions.proofs.Laws.Words.WordLines.{next-line, Fits}
use Rattle.definitions.proofs.Laws.Words.Rows.{IsWord, AllWords}

-- what each line that fits keeps
pub record InOrder (lines : List WordLine) : Type 0 where
  -- the last line is of a word from 1 to 9999, where there is one
  pub begun : 0 < length lines → 1 ≤ word_count lines
  pub few : word_count lines ≤ most_words
  -- no line is of a later word
  pub within : (line : WordLine) → IsIn line lines → line.word ≤ word_count lines
  -- the last word has as many phones as the last line's place says
  pub long : length (phones_said lines (word_count lines)) ≡ (last_line lines).place
  pub words : AllWords (words_of lines)

pub order-none : InOrder []
unfolding words_of word_count last_line phones_said select up_from
order-none =
    record {
      begun = λ h. absurd (omega arith);
      few = omega arith;
      within = λ line i. absurd i;
      long = refl;
      words = λ phones i. absurd i;
    }

-- ---- one line more

module _ {lines : List WordLine} {line : WordLine} (o : InOrder lines) (f : Fits (last_line lines) line) where
  -- the line is of the last word, or of a new one
  comes : ((line.word ≡ word_count lines) × (line.place ≡ suc (last_line lines).place))
      ⊎ ((line.word ≡ suc (word_count lines)) × (line.place ≡ 1))
  unfolding word_count
  comes = (next-line (last_line lines) line).0 f.next

  none_said : line.word ≡ suc (word_count lines) → phones_said lines line.word ≡ []
  none_said new = said-none lines line.word (λ l i e. omega (arith, o.within l i))

  -- the words so far: those before the line's, and the line's if it was begun
  pub words-begun : (words_of lines ≡ words_before lines line.word ++ (phones_said lines line.word ∷ []))
      ⊎ ((words_of lines ≡ words_before lines line.word) × (phones_said lines line.word ≡ []))
  unfolding words_of
  words-begun =
      ⊎_elim
      (λ (same, _). inl (words-parts lines (sym same) f.word_range.low))
      (λ (new, _). let before : word_count lines ≡ line.word - 1 = omega arith in inr (rw before, none_said new)) comes

  pub place-own : line.place ≡ suc (length (phones_said lines line.word))
  place-own =
      ⊎_elim
      (λ (same, place). place ∙ ap suc (sym o.long ∙ ap (λ (w : ℕ). length (phones_said lines w)) (sym same)))
      (λ (new, place). place ∙ ap (λ (l : List ℕ). suc (length l)) (sym (none_said new))) comes

  -- those before it, and it with the line's phone, are words that lines can say
  pub before-words : AllWords (words_before lines line.word)
  before-words phones i =
      ⊎_elim
      (λ e. subst AllWords e o.words phones (in_left phones (words_before lines line.word) _ i))
      (λ (e, _). subst AllWords e o.words phones i) words-begun

  own-ranged : T (every (is_phone most_phone) (phones_said lines line.word))
  unfolding every
  own-ranged =
      let own : List ℕ = phones_said lines line.word in
      ⊎_elim
      (λ e. (subst AllWords e o.words own (in_right own (words_before lines line.word) _ (inl refl))).ranged)
      (λ (_, none). rw none tt) words-begun

  own-word : IsWord (phones_said lines line.word ++ (line.phone ∷ []))
  unfolding every
  own-word =
      let own : List ℕ = phones_said lines line.word in
      let long = length-append own (line.phone ∷ []) in
      let phone : T (is_phone most_phone line.phone) =
      (phone_range most_phone line.phone).1 (f.phone_range.low, f.phone_range.high) in
      record {
        some_phone = rw long (omega arith);
        few = rw long (omega (arith, place-own, f.place_range.high));
        ranged = (every-parts (is_phone most_phone) own _).1
            (own-ranged, (every-cons (is_phone most_phone) line.phone []).1 (phone, tt));
      }

  pub order-more : InOrder (lines ++ (line ∷ []))
  order-more =
      let all : List WordLine = lines ++ (line ∷ []) in
      let own : List ℕ = phones_said lines line.word in
      let count : word_count all ≡ line.word = count-more lines line in
      let higher : word_count lines ≤ line.word =
      ⊎_elim (λ (same, _). omega arith) (λ (new, _). omega arith) comes in
      let grown : length (phones_said all line.word) ≡ line.place =
      ap length (said_more lines line) ∙ length-append own (line.phone ∷ []) ∙ omega (arith, place-own) in
      record {
        begun = λ some. rw count f.word_range.low;
        few = rw count f.word_range.high;
        within = λ l i. rw count
            (⊎_elim (λ j. omega (arith, o.within l j, higher)) (λ j. rw (of-single line l j) (omega arith))
            (of-append l lines (line ∷ []) i));
        long = rw count (grown ∙ ap (λ (l : WordLine). l.place) (sym (last_more lines line)));
        words = rw (words_more lines line f.word_range.low) (λ phones i.
            ⊎_elim (before-words phones) (λ j. rw (of-single (own ++ (line.phone ∷ [])) phones j) own-word)
            (of-append phones (words_before lines line.word) _ i));
      }
