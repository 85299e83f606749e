-- Laws about the whole entry: the arcs cleared, the lines read, and the arcs cleared again at a refusal.
use Rattle.std.specs.Prelude.{◌≡◌, List, ℕ, length, T, true, false, Result}
use Rattle.std.specs.Result.{is_err}
use Rattle.std.proofs.Common.{refl, sym, ap, ◌∙◌, subst}
use Rattle.definitions.specs.declared.Counts.{Counts}
use Rattle.definitions.specs.declared.Refusal.{Refusal}
use Rattle.definitions.specs.Faults.{Outcome, answered, refused}
use Rattle.definitions.specs.Lists.{cleared}
use Rattle.definitions.specs.Said.{result_of}
use Rattle.definitions.specs.NetworkText.{NetworkLine, counts_of, read_network, arcs_left}
use Rattle.definitions.proofs.Laws.Lists.Lists.{clear-length}
use Rattle.nettext.specs.Taking.{Read}

-- reading into arcs that were cleared from the lent ones
module _ (lent : List ℕ) {arcs : List ℕ} (c : arcs ≡ cleared (length lent)) {text : List ℕ}
    {answer : Result Counts Refusal} (a : answer ≡ result_of counts_of (read_network (length arcs) text))
    {after : List ℕ} (r : Read (length arcs) text after)
  where
    abbrev outcome : Outcome (List NetworkLine)
    outcome = read_network (length lent) text

    pub read-answer : answer ≡ result_of counts_of (read_network (length lent) text)
    read-answer = a ∙ ap (λ (n : ℕ). result_of counts_of (read_network n text)) (clear-length lent arcs c)

    -- an accepted network: the arcs hold it
    pub accepted-left : is_err answer ≡ false → after ≡ arcs_left (length lent) (read_network (length lent) text)
    unfolding result_of
    accepted-left k = by outcome refl
      where
        by : (o : Outcome (List NetworkLine)) → outcome ≡ o → after ≡ arcs_left (length lent) outcome
        by (answered lines) e =
            (subst (λ (n : ℕ). Read n text after) (clear-length lent arcs c) r).network lines e
            ∙ ap (arcs_left (length lent)) (sym e)
        by (refused refusal) e = absurd (subst T (ap is_err (sym (ap (result_of counts_of) e) ∙ sym read-answer) ∙ k) tt)

    -- a refusal: what was cleared again is what is left
    pub refused-left : is_err answer ≡ true → {again : List ℕ} → again ≡ cleared (length after)
        → again ≡ arcs_left (length lent) (read_network (length lent) text)
    unfolding result_of arcs_left
    refused-left k {again} d = by outcome refl
      where
        by : (o : Outcome (List NetworkLine)) → outcome ≡ o → again ≡ arcs_left (length lent) outcome
        by (answered lines) e =
            absurd (subst T (sym (ap is_err (sym (ap (result_of counts_of) e) ∙ sym read-answer) ∙ k)) tt)
        by (refused refusal) e = d ∙ ap cleared (r.sized ∙ clear-length lent arcs c) ∙ sym (ap (arcs_left (length lent)) e)
