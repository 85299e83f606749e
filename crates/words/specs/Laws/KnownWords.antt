-- Laws about the test for foreign tables of words, one for each answer of the code.
use Rattle.std.specs.Iterator.Runs.{Run, IsChunksExactRun, AllItemsGive, AnyItemGives, CallKeepsClosure}
use Rattle.std.specs.Fn.{Called}
use Rattle.std.specs.Bool.{MatchBool}
use Rattle.std.specs.List.{IsSubsliceAt}
use Rattle.std.specs.Option.{option_map}
use Rattle.std.proofs.lemmas.Option.{none-some}
use denote.Param.Members.{Mut}
use denote.Ref.{Bor}
use Rattle.definitions.proofs.Laws.Lists.Tests.{by-test}
use Rattle.std.specs.Prelude.{refl, zero, suc, ◌∷◌, Option, Some, None, IsSomeAnd, IfSome, IsTrue}
use Rattle.std.proofs.Common.{subst}
use Rattle.std.specs.Prelude.{◌≡◌, List, [], Bool, true, false, ℕ, ◌+◌, ◌-◌, ◌*◌, ◌/◌, ◌≤◌, ◌<◌, leb, take, drop, get_or}
use Rattle.std.proofs.Common.{sym, ap, ◌∙◌}
use Rattle.std.proofs.Math.Bool.{and-false}
use Rattle.std.proofs.Math.Numerals.{add-one}
use native.Mathlib.Omega.{arith}
use Rattle.std.proofs.Math.ListN.{length}
use Rattle.std.proofs.Math.Seq.{length-take-le}
use borrow.Author.Tests.{le-leb, lt-leb}
use Rattle.definitions.specs.BookLines.{is_phone}
use Rattle.definitions.specs.Forms.{most_phone, most_places, most_words}
use Rattle.definitions.specs.ForeignTables.{holds_only}
use Rattle.definitions.specs.Lists.{◌!◌, every, records}
use Rattle.definitions.specs.WordBooks.{word_size, word_in, word_known, words_known}
use Rattle.definitions.proofs.Laws.Books.AcceptedKnown.{holds-padded}
use Rattle.definitions.proofs.Laws.Lists.Records.{records-length, record-at, records-taken}

-- ---- a phone

module _ (p : ℕ) where
  pub phone-zero : p ≡ 0 → is_phone most_phone p ≡ false
  unfolding is_phone
  phone-zero e = rw (lt-leb 1 p (omega arith))

  pub phone_high : most_phone < p → is_phone most_phone p ≡ false
  unfolding is_phone
  phone_high h = rw (lt-leb p most_phone h) (and-false (leb 1 p))

  pub phone-fine : (p ≡ 0 → ⊥) → p ≤ most_phone → is_phone most_phone p ≡ true
  unfolding is_phone
  phone-fine n h = rw (le-leb 1 p (omega arith), le-leb p most_phone h)

-- ---- the record of a word, by its length

-- the phones that are lent for the test
abbrev lent_phones : (row : List ℕ) → (count : ℕ) → List ℕ
lent_phones row count = take (count + 1 - 1) (drop 1 row)

module _ (row : List ℕ) {count : ℕ} (e : count ≡ row ! 0) where
  lent-phones : lent_phones row count ≡ word_in row
  unfolding word_in
  lent-phones = let all : count + 1 - 1 ≡ row ! 0 = omega arith in rw all

  pub word-empty : count ≡ 0 → false ≡ word_known row
  unfolding word_known
  word-empty h = rw (lt-leb 1 (row ! 0) (omega arith))

  module _ (some : count ≡ 0 → ⊥) where
    pub word-long : word_size ≤ count → false ≡ word_known row
    unfolding word_known
    word-long h = rw (le-leb 1 (row ! 0) (omega arith), lt-leb (row ! 0) most_places (omega arith))

    module _ (few : count < word_size) where
      pub word-misspoken : every (is_phone most_phone) (lent_phones row count) ≡ false → false ≡ word_known row
      unfolding word_known
      word-misspoken h =
          rw (le-leb 1 (row ! 0) (omega arith), le-leb (row ! 0) most_places (omega arith), ← lent-phones, h)

      pub word-judged : length row ≡ word_size → every (is_phone most_phone) (lent_phones row count) ≡ true
          → holds_only (count + 1) row ≡ word_known row
      unfolding word_known holds_only
      word-judged size h =
          rw (
            le-leb 1 (row ! 0) (omega arith),
            le-leb (row ! 0) most_places (omega arith),
            ← lent-phones,
            h,
            le-leb (count + 1) (length row) (omega arith),
            add-one,
            e,
          )

-- ---- all records, as the library's chunks

every-places : {A : Type 0} (test : A → Bool) (l : List A) (d : A)
    → ((i : ℕ) → i < length l → test (get_or l i d) ≡ true) → every test l ≡ true
unfolding every
every-places test [] d h = refl
every-places test (x ∷ l) d h = rw (h 0 (omega arith)) (every-places test l d (λ i k. h (suc i) (omega arith)))

every-fails : {A : Type 0} (test : A → Bool) (l : List A) (d : A) (i : ℕ) → i < length l
    → test (get_or l i d) ≡ false → every test l ≡ false
unfolding every
every-fails test [] d i h e = absurd (omega arith)
every-fails test (x ∷ l) d zero h e = rw e
every-fails test (x ∷ l) d (suc i) h e =
    by-test (test x) (λ t. rw t (every-fails test l d i (omega arith) e)) (λ t. rw t)

module _ {S F : Type 0} {steps : S → Option (Bor (List ℕ)) → S → Type 0} (test : List ℕ → Bool) (words : List ℕ)
    {g : Mut F (Bor (List ℕ) × Unit {0}) Bool} (f : F) (r : Bool) (p : Run steps)
    {size : ℕ} {from : List ℕ} (e₀ : size ≡ word_size) (f₀ : from ≡ words) (cut : IsChunksExactRun p size from)
    (k : (x : Bor (List ℕ)) (b : Bool) (q : F) → Called g f (x, tt) b q → (q ≡ f) × (b ≡ test x.now))
  where
    abbrev count : ℕ
    count = length words / word_size

    chunks : IsChunksExactRun p word_size words
    chunks = subst (λ l. IsChunksExactRun p word_size l) f₀ (subst (λ n. IsChunksExactRun p n from) e₀ cut)

    keeps : CallKeepsClosure g f
    keeps a b q called = (k a.0 b q called).0

    -- what a call answered of the item at a place
    judged : (i : ℕ) (b : Bool) (o : Option (Bor (List ℕ))) → p.at i ≡ o → IsSomeAnd o (λ x. Called g f (x, tt) b f)
        → (i < count) × (test (get_or (records word_size count words) i []) ≡ b)
    judged i b None e called = absurd called
    judged i b (Some x) e called =
        let found : (length x.now ≡ word_size) × (i * word_size + word_size ≤ length words)
        × IsSubsliceAt word_size words (i * word_size) x.now =
        subst (λ o. IfSome o (λ (x : Bor (List ℕ)). (length x.now ≡ word_size) × (i * word_size + word_size ≤ length words)
        × IsSubsliceAt word_size words (i * word_size) x.now)) e (chunks.2 i) in
        let inside : i < count = omega (arith, found.1) in
        let place : word_size * i ≡ i * word_size = omega arith in (
          inside,
          ap test (record-at word_size count words i inside ∙ ap (λ (j : ℕ). take word_size (drop j words)) place ∙ sym found.2.0)
              ∙ sym (k x b f called).1,
        )

    -- the item at a place
    there : (i : ℕ) → i < p.len → (o : Option (Bor (List ℕ))) → p.at i ≡ o → IfSome o (λ x. Called g f (x, tt) true f)
        → IsSomeAnd o (λ x. Called g f (x, tt) true f)
    there i h None e called =
        absurd (none-some _ (ap (option_map (λ y. y)) (sym e) ∙ p.reads i (record { ref_ptr = (0, 0); now = [] }) h))
    there i h (Some x) e called = called

    pub every-by_chunks : MatchBool r (IsTrue p.whole × AllItemsGive p g f true) (AnyItemGives p g f false)
        → r ≡ every test (records word_size (length words / word_size) words)
    every-by_chunks m = by r m
      where
        by : (b : Bool) → MatchBool b (IsTrue p.whole × AllItemsGive p g f true) (AnyItemGives p g f false)
            → b ≡ every test (records word_size count words)
        by true (whole, all) =
            sym (every-places test (records word_size count words) []
            (λ i h.
            let inside : i < p.len = omega (arith, chunks.1 whole, records-length word_size count words) in
            (judged i true (p.at i) refl (there i inside (p.at i) refl (all keeps i))).1))
        by false some =
            let (i, inside, called) = some keeps in
            let (within, fails) = judged i false (p.at i) refl called in
            sym (every-fails test (records word_size count words) [] i
            (omega (arith, records-length word_size count words)) fails)

-- ---- the count, the words beyond the records, and the records

module _ (count : ℕ) (words : List ℕ) where
  pub words-none : count ≡ 0 → false ≡ words_known count words
  unfolding words_known
  words-none h = rw (lt-leb 1 count (omega arith))

  module _ (some : count ≡ 0 → ⊥) where
    pub words-many : most_words < count → false ≡ words_known count words
    unfolding words_known
    words-many h = rw (le-leb 1 count (omega arith), lt-leb count most_words h)

    module _ (few : count ≤ most_words) where
      pub words-unheld : holds_only (word_size * count) words ≡ false → false ≡ words_known count words
      unfolding words_known
      words-unheld h = rw (le-leb 1 count (omega arith), le-leb count most_words few, h)

      pub words-judged : holds_only (word_size * count) words ≡ true
          → let used = take (word_size * count) words in
          every word_known (records word_size (length used / word_size) used) ≡ words_known count words
      unfolding words_known
      words-judged h =
          let room : word_size * count ≤ length words = (holds-padded (word_size * count) words (rw h tt)).0 in
          let whole : word_size * count / word_size ≡ count = omega arith in
          rw (
            length-take-le (word_size * count) words room,
            whole,
            records-taken word_size count words room,
            le-leb 1 count (omega arith),
            le-leb count most_words few,
            h,
          )
