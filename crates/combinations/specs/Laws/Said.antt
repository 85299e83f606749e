-- What combining says, with the ends of the phones, determines what it answers: the count alone tells no ends.
use Rattle.std.specs.Prelude.{◌≡◌, List, ℕ, length, Result, Ok, Err}
use Rattle.std.proofs.Common.{refl, sym, ap, ◌∙◌}
use Rattle.definitions.specs.declared.Refusal.{Refusal}
use Rattle.definitions.specs.Faults.{Outcome, answered, refused}
use Rattle.definitions.specs.Lists.{padded}
use Rattle.definitions.specs.Tables.{Book}
use Rattle.definitions.specs.Combinations.{Combination}
use Rattle.definitions.specs.Said.{result_of, result_said, said_of}
use Rattle.definitions.proofs.Laws.Text.Said.{told, refusal-told}
use Rattle.combinations.specs.declared.ByPhone.{ByPhone}
use Rattle.combinations.specs.Answers.{ends_of, by_phone}

module _ (book : Book) where
  -- the ends are those of the phones
  abbrev Ended : Result ByPhone Refusal → Type 0
  Ended made = (by : ByPhone) → made ≡ Ok by → by.ends ≡ padded 65 (ends_of book)

  abbrev with_ends : (count : ℕ) → Result ByPhone Refusal
  with_ends count = Ok (record { count = count; ends = padded 65 (ends_of book) })

  combined-back : (made : Result ByPhone Refusal) → Ended made
      → told with_ends Err (result_said (λ (by : ByPhone). by.count) 0 made) ≡ made
  unfolding told
  combined-back (Ok by) ends = ap (λ (l : List ℕ). Ok (record { count = by.count; ends = l })) (sym (ends by refl))
  combined-back (Err r) ends = refusal-told with_ends Err 0 r

  combined-says : (o : Outcome (List Combination)) → told with_ends Err (said_of length 0 o) ≡ result_of (by_phone book) o
  unfolding told said_of result_of
  combined-says (answered found) = refl
  combined-says (refused r) = refusal-told with_ends Err 0 r

  pub combined-told : {made : Result ByPhone Refusal} (o : Outcome (List Combination))
      → result_said (λ (by : ByPhone). by.count) 0 made ≡ said_of length 0 o
      → ((by : ByPhone) → made ≡ Ok by → by.ends ≡ padded 65 (ends_of book)) → made ≡ result_of (by_phone book) o
  combined-told {made} o h ends = sym (combined-back made ends) ∙ ap (told with_ends Err) h ∙ combined-says o
