-- What an outcome is, by the result that the code gives of it.
use Rattle.std.specs.Prelude.{◌≡◌, Result, Ok, Err}
use Rattle.std.specs.Prelude.{T}
use Rattle.std.specs.Result.{is_ok}
use Rattle.std.proofs.Common.{refl, sym, ap, ◌∙◌, subst}
use Rattle.definitions.specs.declared.Refusal.{Refusal}
use Rattle.definitions.specs.Faults.{Outcome, answered, refused}
use Rattle.definitions.specs.Said.{result_of, result_said, said_of}
use Rattle.definitions.proofs.Laws.Text.Said.{told, refusal-told, said_same}

-- the answer behind a result, and what is said of it
pub record Answered {A B : Type 0} (says : A → B) (o : Outcome A) (b : B) : Type 0 where
  pub answer : A
  pub was : o ≡ answered answer
  pub said : says answer ≡ b

module _ {A B : Type 0} (says : A → B) where
  pub answered-ok : (o : Outcome A) (b : B) → result_of says o ≡ Ok b → Answered says o b
  unfolding result_of
  answered-ok (answered a) b e = record { answer = a; was = refl; said = search e }
  answered-ok (refused r) b e = absurd (subst T (sym (ap is_ok e)) tt)

  pub refused-err : (o : Outcome A) (r : Refusal) → result_of says o ≡ Err r → o ≡ refused r
  unfolding result_of
  refused-err (answered a) r e = search e
  refused-err (refused s) r e = cc

  -- what a result says in numbers is what the outcome says
  pub said-result : {C : Type 0} (values : B → C) (nothing : C) (o : Outcome A)
      → result_said values nothing (result_of says o) ≡ said_of (λ a. values (says a)) nothing o
  unfolding result_of said_of
  said-result values nothing (answered a) = refl
  said-result values nothing (refused r) = refl

-- What a result says in numbers determines it, where its values can be told from theirs: so a contract that says what a
-- result says leaves it no choice.
module _ {A B : Type 0} (values : A → B) (back : B → A) (inverse : (a : A) → back (values a) ≡ a) (nothing : B) where
  result-back : (r : Result A Refusal) → told (λ b. Ok (back b)) Err (result_said values nothing r) ≡ r
  unfolding told
  result-back (Ok a) = ap Ok (inverse a)
  result-back (Err r) = refusal-told (λ b. Ok (back b)) Err nothing r

  pub result-same : {r s : Result A Refusal} → result_said values nothing r ≡ result_said values nothing s → r ≡ s
  result-same = said_same (result_said values nothing) (λ b. Ok (back b)) Err result-back

  pub result-told : {C : Type 0} (says : C → A) (o : Outcome C) {r : Result A Refusal}
      → result_said values nothing r ≡ said_of (λ c. values (says c)) nothing o → r ≡ result_of says o
  result-told says o h = result-same (h ∙ sym (said-result says values nothing o))
