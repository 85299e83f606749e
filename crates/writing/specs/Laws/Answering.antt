-- Laws about what writing a text answers and leaves: a refusal with a cleared buffer, or the text's length with the
-- text before the zeros. And where bytes are answered, a text was written, and they are it.
use Rattle.std.specs.Prelude.{◌≡◌, List, ℕ, length, take, Result, Ok, Err}
use Rattle.std.proofs.Common.{sym, ap, ◌∙◌}
use Rattle.std.proofs.Math.Seq.{take-append_seam}
use Rattle.definitions.specs.declared.Fault.{Fault}
use Rattle.definitions.specs.declared.Refusal.{Refusal}
use Rattle.definitions.specs.Faults.{Outcome, answered, refuse, answer_left}
use Rattle.definitions.specs.Lists.{cleared, padded}
use Rattle.definitions.specs.Said.{result_of}
use Rattle.definitions.proofs.Laws.Results.{answered-ok}
use Rattle.writing.specs.Answers.{TextLeft}

module _ {o : Outcome (List ℕ)} (size : ℕ) {after : List ℕ} where
  pub refused-left : {answer : Result ℕ Refusal} (fault : Fault) → o ≡ refuse fault 0
      → answer ≡ Err (record { fault = fault; line = 0 }) → after ≡ cleared size → TextLeft o size answer after
  unfolding result_of answer_left
  refused-left fault e a z = (a ∙ rw (e, result_of), z ∙ rw (e, answer_left))

  pub answered-left : {text : List ℕ} {count : ℕ} → o ≡ answered text → count ≡ length text
      → after ≡ padded size text → TextLeft o size (Ok count) after
  unfolding result_of answer_left
  answered-left e c p = (ap Ok c ∙ rw (e, result_of), p ∙ rw (e, answer_left))

-- so many bytes answered: the text that was written, which they are
pub record WrittenText (o : Outcome (List ℕ)) (count : ℕ) (after : List ℕ) : Type 0 where
  pub text : List ℕ
  pub answers : o ≡ answered text
  pub bytes : take count after ≡ text
  pub counts : count ≡ length text

pub bytes-written : (o : Outcome (List ℕ)) (size : ℕ) (answer : Result ℕ Refusal) (count : ℕ) (after : List ℕ)
    → TextLeft o size answer after → answer ≡ Ok count → WrittenText o count after
unfolding answer_left padded
bytes-written o size answer count after (says, leaves) e =
    let w = answered-ok length o count (sym says ∙ e) in
    let left : after ≡ answer_left size (answered w.answer) = leaves ∙ ap (answer_left size) w.was in
    record {
      text = w.answer;
      answers = w.was;
      bytes = ap (λ n. take n after) (sym w.said) ∙ rw left (take-append_seam w.answer _);
      counts = sym w.said;
    }
