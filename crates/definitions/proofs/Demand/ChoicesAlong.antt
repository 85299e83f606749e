-- To each list of phones there is one list of combinations that admit its windows, one after the other, and
-- their leaves are those that the windows reach in the trees. The ways of a book take their metastates by
-- it.
use Rattle.std.specs.Prelude.{◌≡◌, ℕ, zero, suc, ◌+◌, ◌*◌, ◌≤◌, ◌<◌, T, length, take, drop}
use Rattle.std.proofs.Math.Path.{refl, ap, ap₂}
use Rattle.std.proofs.Common.{sym, ◌∙◌, subst, length-drop, length-take-le}
use mathlib.Core.List.{List, [], ◌∷◌, map}
use Rattle.std.proofs.Math.Nat.{suc_inj}
use native.Mathlib.Omega.{arith}
use Rattle.definitions.specs.Lists.{◌!◌}
use Rattle.definitions.specs.BookLines.{is_phone}
use Rattle.definitions.specs.Tables.{Book}
use Rattle.definitions.specs.Combinations.{combinations}
use Rattle.definitions.specs.TreesGive.{windows}
use Rattle.definitions.proofs.Laws.Lists.Lists.{every-split}
use Rattle.definitions.proofs.Laws.Books.Sound.{columns_of, AllPhones, Sound}
use Rattle.definitions.proofs.Demand.Carrier.{fits, fits-take}
use Rattle.definitions.proofs.Demand.Chains.{AdmitEach}
use Rattle.definitions.proofs.Demand.Chosen.{combination_at, chosen_at}
use Rattle.definitions.proofs.Demand.Choices.{leaves_reached, TheChoice, the-choice}
use Rattle.definitions.proofs.Demand.Passages.{Listed, carriers_of}

module _ (book : Book) where
  -- a list with so many windows
  abbrev pub Long : (count : ℕ) (Z : List ℕ) → Type 0
  Long count Z = count + (book.half + book.half) ≤ length Z

  rest-long : (count : ℕ) (Z : List ℕ) → Long (suc count) Z → Long count (drop 1 Z)
  rest-long count Z long = rw length-drop (omega arith)

  rest-phones : (Z : List ℕ) → AllPhones book Z → AllPhones book (drop 1 Z)
  rest-phones Z r = (every-split (is_phone book.phones) 1 Z r).1

  -- combinations that admit the windows of a list, one after the other
  pub record Along (count : ℕ) (Z js : List ℕ) : Type 0 where
    pub as_many : length js ≡ count
    pub listed : Listed book js
    pub admitted : AdmitEach (carriers_of book js) Z

module _ (book : Book) (sound : Sound book) where
  -- ---- the window at the front of a list

  abbrev front_of : (Z : List ℕ) → List ℕ
  front_of Z = take (2 * book.half + 1) Z

  front-choice : (Z : List ℕ) → Long book 1 Z → AllPhones book Z → TheChoice book (front_of Z)
  front-choice Z long r =
      let k : ℕ = 2 * book.half + 1 in
      the-choice book sound (front_of Z) (length-take-le k Z (omega arith) ∙ omega arith)
      (every-split (is_phone book.phones) k Z r).0

  -- a combination sees nothing beyond it
  front-admits : (j : ℕ) (Z : List ℕ) → j < length (combinations book)
      → fits (combination_at book j).carried (front_of Z) ≡ fits (combination_at book j).carried Z
  front-admits j Z l =
      let size : 2 * book.half + 1 ≡ columns_of book = omega arith in
      ap (λ (k : ℕ). fits (combination_at book j).carried (take k Z)) size
      ∙ fits-take (chosen_at book sound j l).formed.wide Z

  -- a combination that admits the front is the one
  front-only : (j : ℕ) (Z : List ℕ) (long : Long book 1 Z) (r : AllPhones book Z)
      → j < length (combinations book) → T (fits (combination_at book j).carried Z)
      → j ≡ (front-choice Z long r).number
  front-only j Z long r l h = (front-choice Z long r).only j l (subst T (sym (front-admits j Z l)) h)

  -- ---- all windows

  pub choices-along : (count : ℕ) (Z : List ℕ) → Long book count Z → AllPhones book Z
      → (js : List ℕ) × Along book count Z js
  choices-along zero Z long r = ([], record { as_many = refl; listed = tt; admitted = tt })
  choices-along (suc count) Z long r =
      let c = front-choice Z (omega arith) r in
      let (js, a) = choices-along count (drop 1 Z) (rest-long book count Z long) (rest-phones book Z r) in (
        c.number ∷ js,
        record {
          as_many = ap suc a.as_many;
          listed = (c.listed, a.listed);
          admitted = (subst T (front-admits c.number Z c.listed) c.admitting, a.admitted);
        },
      )

  -- there are no others
  pub choices-unique : (js ks Z : List ℕ) → Listed book js → Listed book ks → length js ≡ length ks
      → Long book (length js) Z → AllPhones book Z → AdmitEach (carriers_of book js) Z
      → AdmitEach (carriers_of book ks) Z → js ≡ ks
  choices-unique [] [] Z l m e long r a b = refl
  choices-unique [] (k ∷ ks) Z l m e long r a b = absurd (omega arith)
  choices-unique (j ∷ js) [] Z l m e long r a b = absurd (omega arith)
  choices-unique (j ∷ js) (k ∷ ks) Z l m e long r a b =
      let one : Long book 1 Z = omega arith in
      let rest = rest-long book (length js) Z long in
      ap₂ ◌∷◌ (front-only j Z one r l.0 a.0 ∙ sym (front-only k Z one r m.0 b.0))
      (choices-unique js ks (drop 1 Z) l.1 m.1 (suc_inj e) rest (rest-phones book Z r) a.1 b.1)

  -- their leaves
  pub choices-leaves : (js Z : List ℕ) → Listed book js → Long book (length js) Z → AllPhones book Z
      → AdmitEach (carriers_of book js) Z
      → map (λ j. (combination_at book j).leaves) js
      ≡ map (λ W. leaves_reached book W (W ! book.half)) (windows (2 * book.half + 1) (length js) Z)
  unfolding windows
  choices-leaves [] Z l long r a = refl
  choices-leaves (j ∷ js) Z l long r a =
      let one : Long book 1 Z = omega arith in
      let same = ap (λ (i : ℕ). (combination_at book i).leaves) (front-only j Z one r l.0 a.0) in
      ap₂ ◌∷◌ (same ∙ (front-choice Z one r).leaves_are)
      (choices-leaves js (drop 1 Z) l.1 (rest-long book (length js) Z long) (rest-phones book Z r) a.1)
