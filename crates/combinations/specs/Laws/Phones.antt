-- Laws about the combinations of phones added one phone after the other, and how many there are after each: the
-- start, one phone more, no room, and the end. The loop over the phones uses them.
use Rattle.std.specs.Prelude.{Result, Ok, Err, ◌≡◌, refl, length, set}
use Rattle.std.proofs.Math.Path.{sym, ap, subst}
use Rattle.std.proofs.Common.{◌∙◌, zero-add}
use mathlib.Core.List.{List, [], ◌∷◌, ◌++◌, map, append_assoc, map-append}
use Prim.Native.Nat.{ℕ, suc, ◌+◌, ◌-◌, ◌≤◌, ◌<◌}
use native.Mathlib.Omega.{arith}
use Rattle.std.proofs.lemmas.List.{set_at}
use Rattle.definitions.specs.declared.Fault.{Fault}
use Rattle.definitions.specs.Lists.{concat_map, up_from, cleared, padded}
use Rattle.definitions.specs.Matrices.{root_matrix}
use Rattle.definitions.specs.Tables.{Book}
use Rattle.definitions.specs.Combinations.{Combination, combinations_of, combinations, combination_room, leaves_of}
use Rattle.definitions.proofs.Laws.Text.Judging.{refused-not-answered}
use Rattle.definitions.proofs.Laws.Lists.Lists.{concat_map-append, concat_map-snoc, up_from-parts, up_from-snoc}
use Rattle.definitions.proofs.Laws.Lists.Lists.{map-up_from-length, padded-length}
use Rattle.definitions.proofs.Laws.Matrices.Sizes.{columns-held}
use Rattle.definitions.proofs.Laws.Matrices.Matrices.{root-length}
use Rattle.choices.specs.Space.{Holding, Added}
use Rattle.choices.specs.Laws.Grown.{Sized, sized-each, choose-sized, grown-none, grown-refused, grown-over}
use Rattle.choices.specs.Laws.Grown.{grown-all, grown-within, grown-holding, grown-then}
use Rattle.combinations.specs.Answers.{end_of, ends_of, Clear, AllAdded}

-- ---- the combinations of the first phones

abbrev pub of_phones : Book → (phones : ℕ) → List Combination
of_phones book phones = concat_map (λ p. combinations_of book p) (up_from 1 phones)

module _ (book : Book) where
  of-more : (phone : ℕ) → 1 ≤ phone
      → of_phones book (phone - 1) ++ combinations_of book phone ≡ of_phones book phone
  of-more phone low =
      let own : phone ≡ 1 + (phone - 1) = omega arith in
      let all : phone - 1 + 1 ≡ phone = omega arith in
      ap (λ (p : ℕ). of_phones book (phone - 1) ++ combinations_of book p) own
      ∙ sym (concat_map-snoc (λ p. combinations_of book p) (up_from 1 (phone - 1)) (1 + (phone - 1)))
      ∙ ap (concat_map (λ p. combinations_of book p)) (sym (up_from-snoc 1 (phone - 1)))
      ∙ ap (of_phones book) all

  of-all : (phone : ℕ) → phone ≤ book.phones
      → of_phones book phone
      ++ concat_map (λ p. combinations_of book p) (up_from (1 + phone) (book.phones - phone))
      ≡ combinations book
  unfolding combinations
  of-all phone high =
      let whole : phone + (book.phones - phone) ≡ book.phones = omega arith in
      let rest : List ℕ = up_from (1 + phone) (book.phones - phone) in
      sym (concat_map-append (λ p. combinations_of book p) (up_from 1 phone) rest)
      ∙ ap (concat_map (λ p. combinations_of book p)) (sym (up_from-parts 1 phone (book.phones - phone)))
      ∙ ap (of_phones book) whole

  of-sized : book.half ≤ 3 → book.states ≤ 3 → (phones : ℕ) → Sized book.half (of_phones book phones)
  unfolding combinations_of
  of-sized narrow few phones = sized-each _ (up_from 1 phones) λ p.
      choose-sized p [] (root_matrix book.half book.phones p) _
      (omega (arith, map-up_from-length (λ state. leaves_of book p state) 1 book.states))
      (omega (arith, root-length book.half book.phones p, columns-held book.half narrow))

-- ---- the combinations of the phones before one, and how many there were after each of them

-- a book in its ranges, and lent space without a record
pub record Beginning (book : Book) (before : List ℕ) : Type 0 where
  pub none : Holding book.half before 0
  pub narrow : book.half ≤ 3
  pub few : book.states ≤ 3
  pub most : book.phones ≤ 64

pub record PhonesAdded (book : Book) (before : List ℕ) (phone : ℕ) (space ends : List ℕ) (count : ℕ)
    : Type 0 where
  pub begins : Beginning book before
  pub low : 1 ≤ phone
  pub high : phone ≤ suc book.phones
  pub grown : Added book.half before 0 (of_phones book (phone - 1)) (Ok count) space
  pub noted : ends ≡ padded 65 (map (end_of book) (up_from 0 phone))

pub added-start : {book : Book} {before ends : List ℕ} → Beginning book before → Clear before ends
    → PhonesAdded book before 1 before ends 0
unfolding up_from concat_map end_of padded
added-start b clear = record {
  begins = b;
  low = omega arith;
  high = omega arith;
  grown = grown-none b.none;
  noted = clear.ends_clear;
}

-- one count more after the others
noted_more : (f : ℕ → ℕ) (size phone v : ℕ) → phone < size → v ≡ f phone
    → set (padded size (map f (up_from 0 phone))) phone v ≡ padded size (map f (up_from 0 (phone + 1)))
unfolding padded
noted_more f size phone v h e =
    let used : List ℕ = map f (up_from 0 phone) in
    let counted : length used ≡ phone = map-up_from-length f 0 phone in
    let left : size - length used ≡ suc (size - (phone + 1)) = omega arith in
    let all : length (map f (up_from 0 (phone + 1))) ≡ phone + 1 = map-up_from-length f 0 (phone + 1) in
    let more : map f (up_from 0 (phone + 1)) ≡ used ++ (f phone ∷ []) =
    ap (map f) (up_from-snoc 0 phone) ∙ rw (map-append, zero-add phone) in
    rw (left, set_at used 0 (cleared (size - (phone + 1))) v phone counted, all, more, e, append_assoc)

-- there is room for at most 65535
room_most : (half words total : ℕ) → total ≤ combination_room half words → total ≤ 65535
unfolding combination_room
room_most half words total h = omega arith

module _ {book : Book} {before : List ℕ} {phone : ℕ} {space ends : List ℕ} {count : ℕ}
    (s : PhonesAdded book before phone space ends count)
  where
    pub noted-length : length ends ≡ 65
    noted-length =
        let used : List ℕ = map (end_of book) (up_from 0 phone) in
        let many = map-up_from-length (end_of book) 0 phone in
        ap length s.noted ∙ padded-length 65 used (omega (arith, many, s.high, s.begins.most))

    pub added-end : book.phones < phone → AllAdded book before (Ok count) space ends
    unfolding combinations ends_of
    added-end h =
        let last : phone - 1 ≡ book.phones = omega (arith, s.high) in
        let all : phone ≡ suc book.phones = omega (arith, s.high) in record {
          grown =
              subst (λ (n : ℕ). Added book.half before 0 (of_phones book n) (Ok count) space)
              last s.grown;
          noted = λ found e. s.noted ∙ ap (λ (n : ℕ). padded 65 (map (end_of book) (up_from 0 n))) all;
        }

    so-far-sized : Sized book.half (of_phones book (phone - 1))
    so-far-sized = of-sized book s.begins.narrow s.begins.few (phone - 1)

    pub added-holding : Holding book.half space count
    added-holding = grown-holding s.begins.none (of_phones book (phone - 1)) s.grown refl so-far-sized

    -- the combinations of one phone more
    module _ (within : phone ≤ book.phones) {after : List ℕ} {answer : Result ℕ Fault}
        (g : Added book.half space count (combinations_of book phone) answer after)
      where
        so_far : Added book.half before 0 (of_phones book phone) answer after
        so_far =
            subst (λ (l : List Combination). Added book.half before 0 l answer after)
            (of-more book phone s.low)
            (grown-then s.begins.none (of_phones book (phone - 1)) s.grown refl so-far-sized _ g)

        pub added-over : {fault : Fault} → answer ≡ Err fault
            → AllAdded book before (Err fault) after ends
        added-over {fault} stops =
            let all : Added book.half before 0 (combinations book) (Err fault) after =
            subst (λ (l : List Combination). Added book.half before 0 l (Err fault) after)
            (of-all book phone within) (grown-over s.begins.none (of_phones book phone) so_far stops _) in
            let refused = grown-refused s.begins.none (combinations book) all refl in record {
              grown = all;
              noted = λ found k. absurd (refused-not-answered _ fault 0 found refused k);
            }

        module _ {total : ℕ} (counts : answer ≡ Ok total) where
          pub added-few : total ≤ 65535
          added-few =
              room_most book.half (length before) total
              (grown-within s.begins.none (of_phones book phone) so_far counts)

          -- all are counted
          total-is : total ≡ end_of book phone
          unfolding end_of
          total-is = omega (arith, grown-all s.begins.none (of_phones book phone) so_far counts)

          pub added_more : {at v : ℕ} → at ≡ phone → v ≡ total
              → PhonesAdded book before (phone + 1) after (set ends at v) total
          added_more {at} {v} p q =
              let last : phone + 1 - 1 ≡ phone = omega arith in record {
                begins = s.begins;
                low = omega arith;
                high = omega arith;
                grown =
                    rw last
                    (subst (λ (a : Result ℕ Fault). Added book.half before 0 (of_phones book phone) a after)
                    counts so_far);
                noted =
                    rw (s.noted, p, q)
                    (noted_more (end_of book) 65 phone total (omega (arith, s.begins.most)) total-is);
              }
