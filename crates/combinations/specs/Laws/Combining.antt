-- Laws about what combining answers and leaves, one for each way that the code returns: 18, then 30, else the
-- combinations.
use Rattle.std.specs.Prelude.{Result, Ok, Err, ◌≡◌, List, true, false, ℕ}
use Rattle.std.proofs.Math.Path.{ap}
use Rattle.std.proofs.Common.{◌∙◌, arith}
use Rattle.std.proofs.Math.Nat.{zero-add, mul-zero}
use Rattle.std.proofs.Math.ListN.{length}
use Rattle.definitions.specs.declared.Header.{Header}
use Rattle.definitions.specs.declared.Fault.{Fault}
use Rattle.definitions.specs.declared.Refusal.{Refusal}
use Rattle.definitions.specs.declared.Fault.TheVariants.{Foreign}
use Rattle.definitions.specs.Faults.{answered, refuse, judge}
use Rattle.definitions.specs.Said.{result_of}
use Rattle.definitions.specs.Lists.{cleared}
use Rattle.definitions.specs.Tables.{Tables, Book, book_in, tables_contents, tables_book}
use Rattle.definitions.specs.ForeignTables.{tables_known}
use Rattle.definitions.specs.Combinations.{Combination, combinations, combination_size, combination_space}
use Rattle.definitions.specs.Combinations.{combine}
use Rattle.choices.specs.Space.{Holding, added_in}
use Rattle.choices.specs.Laws.Grown.{holding-none, grown-refused, grown-all, grown-answered}
use Rattle.combinations.specs.declared.ByPhone.{ByPhone}
use Rattle.combinations.specs.Answers.{by_phone, AllAdded}

module _ (header : Header) (tables : Tables) (size : ℕ) (answer : Result ByPhone Refusal) (left : List ℕ) where
  -- what the code answers and leaves in the space
  abbrev Leaves : Type 0
  Leaves =
      (answer ≡ result_of (by_phone (tables_book header tables)) (combine header tables size))
      × (left ≡ combination_space header.half size (combine header tables size))

  -- what it answers by a fault
  abbrev Refuses : Fault → Type 0
  Refuses fault = answer ≡ Err (record { fault = fault; line = 0 })

  leaves-refused : (fault : Fault) → combine header tables size ≡ refuse fault 0 → Refuses fault
      → left ≡ cleared size → Leaves
  unfolding result_of combination_space
  leaves-refused fault e a l = rw e (a, l)

  pub leaves-foreign : tables_known header tables ≡ false → Refuses Foreign → left ≡ cleared size → Leaves
  unfolding combine judge
  leaves-foreign h a l = leaves-refused Foreign (rw h) a l

  module _ (h : tables_known header tables ≡ true) (book : Book) (own : tables_book header tables ≡ book)
      {before after noted : List ℕ} {adds : Result ℕ Fault} (clear : before ≡ cleared (length before))
      (s : length before ≡ size) (all : AllAdded book before adds after noted)
    where
      abbrev found : List Combination
      found = combinations book

      same_half : header.half ≡ book.half
      unfolding tables_book book_in tables_contents
      same_half = ap (λ (b : Book). b.half) own

      -- 18 is passed, so only the room is left to judge
      combine-header : combine header tables size ≡ added_in header.half (length before) 0 found
      unfolding combine judge added_in
      combine-header = rw (h, own, s, zero-add (length found))

      combine-is : combine header tables size ≡ added_in book.half (length before) 0 found
      combine-is = combine-header ∙ ap (λ (k : ℕ). added_in k (length before) 0 found) same_half

      none : Holding book.half before 0
      none = holding-none book.half before clear

      pub leaves-stopped : {fault : Fault} → adds ≡ Err fault → Refuses fault → left ≡ cleared size → Leaves
      leaves-stopped {fault} stops a l =
          leaves-refused fault (combine-is ∙ grown-refused none found all.grown stops) a l

      pub leaves-combined : {total : ℕ} → adds ≡ Ok total → answer ≡ Ok (record { count = total; ends = noted })
          → left ≡ after → Leaves
      unfolding result_of combination_space
      leaves-combined {total} counts a l =
          let is : added_in book.half (length before) 0 found ≡ answered found =
          grown-answered none found all.grown counts in
          let same : total ≡ length found = omega (arith, grown-all none found all.grown counts) in
          let words = all.grown.holds found is in
          rw (combine-is, is, own) (
            a ∙ rw (same, all.noted found is),
            l ∙ words ∙ rw (s, same_half, mul-zero (combination_size book.half)),
          )
