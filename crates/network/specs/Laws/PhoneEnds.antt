-- Where the combinations of each phone end. Those of phones up to one stand before all others, so a number
-- below the end of a phone has a phone up to it, and a number from there on a greater one.
use Rattle.std.specs.Prelude.{◌≡◌}
use Rattle.std.proofs.Math.Path.{ap, ap₂}
use Rattle.std.proofs.Common.{◌∙◌, subst}
use mathlib.Core.List.{List, [], ◌++◌}
use Prim.Native.Nat.{ℕ, suc, ◌+◌, ◌-◌, ◌≤◌, ◌<◌}
use native.Mathlib.Omega.{arith}
use Rattle.std.proofs.Math.ListN.{length, length-append, get_or-append}
use Rattle.std.proofs.Math.Seq.{get_or-append-add}
use Rattle.definitions.specs.Lists.{◌!◌, concat_map, up_from, padded, IsIn}
use Rattle.definitions.specs.Tables.{Book}
use Rattle.definitions.specs.Combinations.{Combination, combinations_of, combinations}
use Rattle.definitions.specs.Metastates.{no_combination, numbered}
use Rattle.definitions.proofs.Laws.Lists.Lists.{concat_map-append, map-up_from-length, map-up_from-at}
use Rattle.definitions.proofs.Laws.Lists.Lists.{padded-length, up_from-parts}
use Rattle.definitions.proofs.Laws.Lists.Members.{in-at, of-concat_map, of-up_from}
use Rattle.definitions.proofs.Laws.Matrices.SevenWords.{padded-column}
use Rattle.definitions.proofs.Laws.Books.Sound.{Sound}
use Rattle.definitions.proofs.Demand.Carrier.{top_of, top-wide}
use Rattle.definitions.proofs.Demand.Chosen.{choose-begins}
use Rattle.combinations.specs.Answers.{end_of, ends_of}
use Rattle.index.specs.Combinations.{EndsAt}

module _ (book : Book) (sound : Sound book) where
  abbrev of_phones : (first count : ℕ) → List Combination
  of_phones first count = concat_map (λ p. combinations_of book p) (up_from first count)

  phone_range : (first count : ℕ) → first + count ≤ suc book.phones → (c : Combination)
      → IsIn c (of_phones first count) → (first ≤ c.phone) × (c.phone < first + count)
  unfolding combinations_of
  phone_range first count few c i =
      let (p, j, k) = of-concat_map (combinations_of book) c (up_from first count) i in
      let range = of-up_from first count p j in
      let here : p ≤ book.phones = omega (arith, range) in
      let top = top-wide book p here in
      let trees : List ℕ = up_from 1 book.states in
      let own = (choose-begins book sound p here trees [] (top_of book p) top c k).phone_is in
      omega (arith, range, own)

  -- the combinations of phones up to one, and the others
  module _ (q : ℕ) (h : q ≤ book.phones) where
    abbrev others : List Combination
    others = of_phones (1 + q) (book.phones - q)

    parts : combinations book ≡ of_phones 1 q ++ others
    unfolding combinations
    parts =
        let all : book.phones ≡ q + (book.phones - q) = omega arith in
        ap (of_phones 1) all
        ∙ ap (concat_map (combinations_of book)) (up_from-parts 1 q (book.phones - q))
        ∙ concat_map-append (combinations_of book) (up_from 1 q) (up_from (1 + q) (book.phones - q))

    end-within : end_of book q ≤ length (combinations book)
    unfolding end_of
    end-within = rw parts (omega (arith, length-append (of_phones 1 q) others))

    before-end : (i : ℕ) → i < end_of book q → (numbered (combinations book) i).phone ≤ q
    unfolding end_of
    before-end i k =
        let c : Combination = numbered (of_phones 1 q) i in
        let same : numbered (combinations book) i ≡ c =
        ap (λ cs. numbered cs i) parts ∙ get_or-append (of_phones 1 q) others no_combination i k in
        rw same (omega (arith, phone_range 1 q (omega arith) c (in-at (of_phones 1 q) i no_combination k)))

    from_end : (i : ℕ) → end_of book q ≤ i → i < length (combinations book)
        → q < (numbered (combinations book) i).phone
    unfolding end_of
    from_end i k l =
        let j : ℕ = i - end_of book q in
        let c : Combination = numbered others j in
        let place : i ≡ length (of_phones 1 q) + j = omega arith in
        let whole : length (combinations book) ≡ length (of_phones 1 q) + length others =
        ap length parts ∙ length-append (of_phones 1 q) others in
        let same : numbered (combinations book) i ≡ c =
        ap₂ numbered parts place ∙ get_or-append-add (of_phones 1 q) others j no_combination in
        let listed : IsIn c others = in-at others j no_combination (omega arith) in
        rw same (omega (arith, phone_range (1 + q) (book.phones - q) (omega arith) c listed))

  -- ---- the table of ends

  abbrev ends : List ℕ
  ends = padded 65 (ends_of book)

  pub ends_sized : book.phones ≤ 64 → length ends ≡ 65
  unfolding ends_of
  ends_sized h =
      padded-length 65 (ends_of book) (omega (arith, map-up_from-length (end_of book) 0 (suc book.phones)))

  end-at : (q : ℕ) → q ≤ book.phones → ends ! q ≡ end_of book q
  unfolding ends_of
  end-at q h =
      padded-column 65 (ends_of book) q
      ∙ map-up_from-at (end_of book) 0 (suc book.phones) q q (omega arith) (omega arith)

  pub ends_at : (q : ℕ) → q ≤ book.phones → EndsAt (combinations book) ends q
  ends_at q h =
      let end : ends ! q ≡ end_of book q = end-at q h in
      record {
        within = rw end (end-within q h);
        before = λ i to. before-end q h i (subst (λ (e : ℕ). i < e) end to);
        after = λ i from l. from_end q h i (subst (λ (e : ℕ). e ≤ i) end from) l;
      }
