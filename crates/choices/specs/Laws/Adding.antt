-- Laws about one combination added: the words of its record, by place, and the record put after the used ones
-- of the space, or left out where there is no room.
use Rattle.std.specs.Prelude.{Ok, Err, ◌≡◌, refl, drop, set}
use Rattle.std.proofs.Math.Path.{sym, ap, ap₂, subst}
use Rattle.std.proofs.Common.{◌∙◌, arith, length-take-le}
use mathlib.Core.List.{List, [], ◌∷◌, ◌++◌, append_assoc, append-nil}
use Prim.Native.Nat.{ℕ, suc, ◌+◌, ◌-◌, ◌*◌, ◌≤◌, ◌<◌}
use Rattle.std.proofs.Math.ListN.{length, take, length-append}
use Rattle.std.proofs.Math.Seq.{take-append-add}
use Rattle.std.proofs.lemmas.List.{length-drop, set_split, drop_all, take_at, drop_at}
use borrow.Rule.Slice.PartMut.{put_mid}
use Rattle.definitions.specs.Lists.{concat_map, cleared, padded}
use Rattle.definitions.specs.Matrices.{most_columns, matrix_size}
use Rattle.definitions.specs.declared.Fault.TheVariants.{Choices}
use Rattle.definitions.specs.Combinations.{Combination, combination_size, combination_words, combination_room}
use Rattle.definitions.proofs.Laws.Lists.Lists.{drop-cleared, padded-length}
use Rattle.definitions.proofs.Laws.Lists.Records.{record-within}
use Rattle.definitions.proofs.Laws.Matrices.Sizes.{words-few, value-record}
use Rattle.matrix.specs.Shapes.{width_of}
use Rattle.matrix.specs.Laws.Widths.{width-taken}
use Rattle.choices.specs.declared.Choice.{Choice}
use Rattle.choices.specs.Choices.{Chosen, matrix_met, combination_of}
use Rattle.choices.specs.Space.{Holding, Added}
use Rattle.choices.specs.Laws.Grown.{grown-counted, grown-stopped}

-- ---- the words of a choice's record

module _ (phone : ℕ) (leaves columns : List ℕ) (three : length leaves ≡ 3) where
  pub row-length : length columns ≡ most_columns → length (phone ∷ (leaves ++ columns)) ≡ 4 + most_columns
  row-length seven = simp length-append (omega arith)

-- ---- the record in the space

-- the first words of a phone, three leaves and columns
cut-first : (phone : ℕ) (rest : List ℕ) (n : ℕ) → take (4 + n) (phone ∷ rest) ≡ phone ∷ take (3 + n) rest
cut-first phone rest n =
    let more : 4 + n ≡ suc (3 + n) = omega arith in ap (λ (k : ℕ). take k (phone ∷ rest)) more

cut-after : (leaves columns : List ℕ) (n : ℕ) → length leaves ≡ 3
    → take (3 + n) (leaves ++ columns) ≡ leaves ++ take n columns
cut-after leaves columns n e =
    ap (λ (k : ℕ). take (k + n) (leaves ++ columns)) (sym e) ∙ take-append-add leaves columns n

-- written one after the other
module _ (phone : ℕ) (leaves columns words : List ℕ) (three : length leaves ≡ 3) (h : 4 ≤ length words) where
  abbrev left : List ℕ
  left = drop 3 (drop 1 words)

  first-put : set words 0 phone ≡ phone ∷ drop 1 words
  first-put = set_split words 0 phone (omega arith)

  leaves-put : put_mid 1 3 (set words 0 phone) leaves ≡ phone ∷ (leaves ++ left)
  leaves-put = rw first-put

  pub row-written : put_mid 4 (length (put_mid 1 3 (set words 0 phone) leaves) - 4)
      (put_mid 1 3 (set words 0 phone) leaves) (take (length words - 4) columns)
      ≡ take (length words) (phone ∷ (leaves ++ columns))
  row-written =
      let n : ℕ = length words - 4 in
      let k : ℕ = length (put_mid 1 3 (set words 0 phone) leaves) - 4 in
      let sized : length (put_mid 1 3 (set words 0 phone) leaves) ≡ length words =
      ap length leaves-put ∙ simp (length-append, length-drop) (omega (arith, three, h)) in
      let long : length words ≡ 4 + n = omega (arith, h) in
      let none : drop k left ≡ [] = drop_all k left (simp length-drop (omega (arith, sized))) in
      let written : put_mid 4 k (phone ∷ (leaves ++ left)) (take n columns) ≡ phone ∷ (leaves ++ take n columns) =
      rw (take_at leaves left 3 three, drop_at leaves left 3 three, none, append-nil) in
      ap (λ (l : List ℕ). put_mid 4 k l (take n columns)) leaves-put ∙ written
      ∙ sym (ap (λ (m : ℕ). take m (phone ∷ (leaves ++ columns))) long ∙ cut-first phone (leaves ++ columns) n
      ∙ ap (λ (l : List ℕ). phone ∷ l) (cut-after leaves columns n three))

module _ {half : ℕ} {space : List ℕ} {count : ℕ} (h : Holding half space count) (choice : Choice) where
  abbrev new : List Combination
  new = combination_of (width_of half) choice ∷ []

  pub added_none : combination_room half (length space) ≤ count → Added half space count new (Err Choices) space
  added_none full = grown-stopped new (omega arith) refl

  -- the record stands within the space
  pub added-within : {size : ℕ} → size ≡ combination_size half → count < combination_room half (length space)
      → size * count + size ≤ length space
  unfolding combination_room
  added-within e roomy =
      subst (λ (n : ℕ). n * count + n ≤ length space) (sym e)
      (record-within (combination_size half) count (omega (arith, roomy)))

  -- put in its place
  module _ (chosen : Chosen (width_of half) choice) (three : length choice.leaves ≡ 3)
      (seven : length choice.matrix.columns ≡ most_columns) (roomy : count < combination_room half (length space))
      {size : ℕ} (is : size ≡ combination_size half) {part : List ℕ}
      (put : part ≡ take size (choice.phone ∷ (choice.leaves ++ choice.matrix.columns))) where
    abbrev at : ℕ
    at = size * count

    abbrev used : List ℕ
    used = take at space

    few : half ≤ 3
    few = omega (arith, chosen.narrow)

    met-width : length (matrix_met (width_of half) choice) ≡ width_of half
    met-width = width-taken chosen.narrow chosen.matrix

    fits : at + size ≤ length space
    fits = added-within is roomy

    used-length : length used ≡ at
    used-length = length-take-le at space (omega (arith, fits))

    rest : space ≡ padded (length space) used
    rest = h.rest ∙ ap (λ (n : ℕ). padded (length space) (take (n * count) space)) (sym is)

    -- the part is the combination's record
    words : part ≡ concat_map (combination_words half) new
    unfolding concat_map combination_words
    words =
        put
        ∙ ap (λ (n : ℕ). take n (choice.phone ∷ (choice.leaves ++ choice.matrix.columns))) is
        ∙ cut-first choice.phone (choice.leaves ++ choice.matrix.columns) (matrix_size half)
        ∙ ap (λ (l : List ℕ). choice.phone ∷ l)
        (cut-after choice.leaves choice.matrix.columns (matrix_size half) three
        ∙ ap₂ (λ (l m : List ℕ). l ++ m) chosen.leaves
        (ap (take (matrix_size half)) chosen.matrix ∙ value-record half few _ met-width))
        ∙ sym (append-nil _)

    part_length : length part ≡ size
    part_length =
        ap length put
        ∙ length-take-le size (choice.phone ∷ (choice.leaves ++ choice.matrix.columns))
        (omega (
          arith,
          row-length choice.phone choice.leaves choice.matrix.columns three seven,
          is,
          words-few half few,
        ))

    -- the space after the used records is 0, and so is what the new one leaves of it
    after : drop (at + size - at) (drop at space) ≡ cleared (length space - length (used ++ part))
    unfolding padded
    after =
        let n : ℕ = length space in
        let left : n - length used - (at + size - at) ≡ n - length (used ++ part) =
        rw length-append (omega (arith, used-length, part_length)) in
        ap (drop (at + size - at))
        (ap (drop at) rest ∙ drop_at used (cleared (n - length used)) at used-length)
        ∙ drop-cleared (at + size - at) (n - length used) ∙ ap cleared left

    after-all : put_mid at (at + size - at) space part ≡ padded (length space) (used ++ part)
    unfolding padded
    after-all = ap (λ (l : List ℕ). used ++ (part ++ l)) after ∙ sym (append_assoc used part _)

    pub added-put : Added half space count new (Ok (count + 1)) (put_mid at (at + size - at) space part)
    added-put =
        let sized =
        ap length after-all
        ∙ padded-length (length space) (used ++ part)
        (rw length-append (omega (arith, used-length, part_length, fits))) in
        grown-counted new refl (omega arith)
        (after-all
        ∙ ap₂ (λ (n : ℕ) (l : List ℕ). padded (length space) (take (n * count) space ++ l)) is words)
        sized
