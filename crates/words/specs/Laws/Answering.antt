-- Laws about the whole entry: the table cleared, the lines read, and the table cleared again at a refusal.
use Rattle.std.specs.Prelude.{◌≡◌, List, ℕ, length, T, true, false, Result}
use Rattle.std.specs.Result.{is_err}
use Rattle.std.proofs.Common.{refl, sym, ap, ◌∙◌, subst}
use Rattle.definitions.specs.declared.Refusal.{Refusal}
use Rattle.definitions.specs.Faults.{Outcome, answered, refused}
use Rattle.definitions.specs.Lists.{cleared}
use Rattle.definitions.specs.Said.{result_of}
use Rattle.definitions.specs.WordBooks.{WordLine, word_count, read_words, words_left}
use Rattle.definitions.proofs.Laws.Lists.Lists.{clear-length}
use Rattle.words.specs.Taking.{Read}

-- reading into a table that was cleared
module _ (lent : List ℕ) {words : List ℕ} (c : words ≡ cleared (length lent)) {text : List ℕ}
    {answer : Result ℕ Refusal} (a : answer ≡ result_of word_count (read_words (length words) text))
    {after : List ℕ} (r : Read (length words) text after)
  where
    abbrev outcome : Outcome (List WordLine)
    outcome = read_words (length lent) text

    pub read-answer : answer ≡ result_of word_count (read_words (length lent) text)
    read-answer = a ∙ ap (λ (n : ℕ). result_of word_count (read_words n text)) (clear-length lent words c)

    -- an accepted book: the table holds it
    pub accepted-left : is_err answer ≡ false → after ≡ words_left (length lent) (read_words (length lent) text)
    unfolding result_of
    accepted-left k = by outcome refl
      where
        by : (o : Outcome (List WordLine)) → outcome ≡ o → after ≡ words_left (length lent) outcome
        by (answered lines) e =
            (subst (λ (n : ℕ). Read n text after) (clear-length lent words c) r).holds lines e
            ∙ ap (words_left (length lent)) (sym e)
        by (refused refusal) e = absurd (subst T (ap is_err (sym (ap (result_of word_count) e) ∙ sym read-answer) ∙ k) tt)

    -- a refusal: what was cleared again is what is left
    pub refused-left : is_err answer ≡ true → {again : List ℕ} → again ≡ cleared (length after)
        → again ≡ words_left (length lent) (read_words (length lent) text)
    unfolding result_of words_left
    refused-left k {again} d = by outcome refl
      where
        by : (o : Outcome (List WordLine)) → outcome ≡ o → again ≡ words_left (length lent) outcome
        by (answered lines) e =
            absurd (subst T (sym (ap is_err (sym (ap (result_of word_count) e) ∙ sym read-answer) ∙ k)) tt)
        by (refused refusal) e = d ∙ ap cleared (r.sized ∙ clear-length lent words c) ∙ sym (ap (words_left (length lent)) e)
