-- A passage from a metastate to where a sentence may end is the same as a list of phones that ends in silence,
-- which the metastate admits and each further combination admits from its own place on. Both directions are
-- the chain theorem with the end test (law 4 of Carrier); Ways and Alive use them.
use Rattle.std.specs.Prelude.{◌≡◌, ◌↔◌, ℕ, suc, ◌+◌, ◌≤◌, ◌<◌, T, length, take, drop, replicate}
use Rattle.std.proofs.Math.Path.{refl}
use Rattle.std.proofs.Common.{sym, ap, ap₂, ◌∙◌, subst, arith, length-append, length-drop, take-append-drop, drop-cons, drop-drop, drop_at, length-take-le}
use mathlib.Core.List.{List, [], ◌∷◌, ◌++◌}
use Rattle.std.proofs.lemmas.List.{length-replicate, length-map}
use Rattle.std.proofs.Math.Seq.{drop-append-add}
use Rattle.definitions.specs.Lists.{◌!◌}
use Rattle.definitions.specs.BookLines.{is_phone}
use Rattle.definitions.specs.Tables.{Book}
use Rattle.definitions.specs.Combinations.{combinations}
use Rattle.definitions.specs.Metastates.{Metastate, phone_of, combination_of}
use Rattle.definitions.proofs.Laws.Lists.Lists.{every-parts, every-split}
use Rattle.definitions.proofs.Laws.Books.Sound.{columns_of, AllPhones, Sound}
use Rattle.definitions.proofs.Laws.Networks.Metastates.{FollowerOf, may-end}
use Rattle.definitions.proofs.Laws.Trees.Contexts.{silence-phones}
use Rattle.definitions.proofs.Demand.Carrier.{holds_some, end_test, fits, Formed, meet-wide, meet-fits}
use Rattle.definitions.proofs.Demand.Carrier.{shift-wide, fits-ends, ends-fits}
use Rattle.definitions.proofs.Demand.Chains.{AdmitEach, AllWide, after_steps, Steps, Trace, chain}
use Rattle.definitions.proofs.Demand.Chosen.{combination_at, chosen_at}
use Rattle.definitions.proofs.Demand.Passages.{Listed, carriers_of, phones_of, step_of, last_along, Passage}
use Rattle.definitions.proofs.Demand.Passages.{follower-step}

module _ (book : Book) where
  -- what the construction keeps of a metastate
  pub record Constructed (x : Metastate) : Type 0 where
    pub listed : x.number < length (combinations book)
    pub formed : Formed book x.carried
    -- it admits nothing that its combination does not
    pub inside : (Z : List ℕ) → T (fits x.carried Z) → T (fits (combination_at book x.number).carried Z)

  -- ---- the last metastate of a passage

  last-carried : (x : Metastate) (js : List ℕ)
      → (last_along book x js).carried ≡ after_steps book x.carried (carriers_of book js)
  unfolding last_along after_steps
  last-carried x [] = refl
  last-carried x (j ∷ js) = last-carried (step_of book x j) js

  pub last-phone : (x : Metastate) (js : List ℕ)
      → phone_of (combinations book) (last_along book x js) ≡ phones_of book (x.number ∷ js) ! length js
  unfolding last_along phone_of combination_of
  last-phone x [] = refl
  last-phone x (j ∷ js) = last-phone (step_of book x j) js

  -- phones to the end of a sentence, with silence beyond the last centre
  pub record Sentence (x : Metastate) (js Z : List ℕ) : Type 0 where
    pub phones-in : AllPhones book Z
    pub long : length Z ≡ length js + (book.half + 1 + book.half)
    pub first : T (fits x.carried Z)
    pub others : AdmitEach (carriers_of book js) (drop 1 Z)
    pub silence : drop (length js + (book.half + 1)) Z ≡ replicate book.half 1

  -- all combinations of a passage, that of its first metastate included, admit their windows
  pub sentence-all : (x : Metastate) (js Z : List ℕ) → Constructed x → Sentence x js Z
      → AdmitEach (carriers_of book (x.number ∷ js)) Z
  sentence-all x js Z k s = (k.inside Z s.first, s.others)

module _ (book : Book) (sound : Sound book) where
  listed-wide : (js : List ℕ) → Listed book js → AllWide book (carriers_of book js)
  listed-wide [] l = tt
  listed-wide (j ∷ js) l = ((chosen_at book sound j l.0).formed.wide, listed-wide js l.1)

  -- the phones in the centres of the windows are the combinations' phones
  pub centres : (js Z : List ℕ) → Listed book js → AdmitEach (carriers_of book js) Z
      → book.half + length js ≤ length Z → take (length js) (drop book.half Z) ≡ phones_of book js
  centres [] Z l each long = refl
  centres (j ∷ js) Z l each long =
      let n : ℕ = book.half in
      let centre : Z ! n ≡ (combination_at book j).phone = (chosen_at book sound j l.0).centre Z each.0 in
      let one_on : 1 + n ≡ suc n = omega arith in
      let next : drop (suc n) Z ≡ drop n (drop 1 Z) = sym (drop-drop n 1 Z ∙ rw one_on) in
      let rest = centres js (drop 1 Z) l.1 each.1 (rw length-drop (omega arith)) in
      rw (drop-cons Z n 0 (omega arith)) (ap₂ ◌∷◌ centre (ap (take (length js)) next ∙ rest))

  -- ---- what the construction keeps of a metastate is kept by steps

  constructed-step : (x : Metastate) (j : ℕ) → Constructed book x → j < length (combinations book)
      → T (holds_some (step_of book x j).carried) → Constructed book (step_of book x j)
  constructed-step x j k l v =
      let shifted = shift-wide k.formed.wide in
      let own = (chosen_at book sound j l).formed.wide in
      record {
        listed = l;
        formed = record { wide = meet-wide shifted own; holds = v };
        inside = λ Z h. ((meet-fits shifted own Z).0 h).1;
      }

  pub constructed-follower : (x y : Metastate) → Constructed book x → FollowerOf book (combinations book) x y
      → Constructed book y
  constructed-follower x y k f =
      subst (Constructed book) (sym (follower-step book x y f))
      (constructed-step x y.number k f.listed f.holds)

  constructed-last : (x : Metastate) (js : List ℕ) → Constructed book x → Listed book js
      → Steps book x.carried (carriers_of book js) → Constructed book (last_along book x js)
  unfolding last_along
  constructed-last x [] k l s = k
  constructed-last x (j ∷ js) k l s =
      constructed-last (step_of book x j) js (constructed-step x j k l.0 s.0) l.1 s.1

  -- ---- the end of a sentence: phones up to the last centre, then silence

  end-phones : (U : List ℕ) → AllPhones book U
      → AllPhones book (U ++ replicate book.half 1)
  end-phones U inside =
      let silent = silence-phones book.phones book.half sound.some_phone in
      (every-parts (is_phone book.phones) U (replicate book.half 1)).1 (inside, silent)

  end-length : (U : List ℕ) → length U ≡ book.half + 1
      → length (U ++ replicate book.half 1) ≡ book.half + 1 + book.half
  end-length U size = length-append U (replicate book.half 1) ∙ rw (size, length-replicate)

  -- ---- passages and sentences

  -- the chain theorem for the steps of a passage
  chained : (x : Metastate) (js W : List ℕ) → Constructed book x → Listed book js
      → AllPhones book W → columns_of book ≤ length W
      → (Steps book x.carried (carriers_of book js)
      × T (fits (after_steps book x.carried (carriers_of book js)) W))
      ↔ ((e : List ℕ) × Trace book x.carried (carriers_of book js) W e)
  chained x js W k l r long =
      chain book x.carried (carriers_of book js) W k.formed (listed-wide js l) r long

  -- the phones before the end are those that trace the steps back
  traced-sentence : (x : Metastate) (js U e : List ℕ) → AllPhones book U
      → length U ≡ book.half + 1
      → Trace book x.carried (carriers_of book js) (U ++ replicate book.half 1) e
      → Sentence book x js (e ++ (U ++ replicate book.half 1))
  traced-sentence x js U e inside size t =
      let n : ℕ = book.half in
      let W : List ℕ = U ++ replicate n 1 in
      let many : length e ≡ length js = t.as_many ∙ length-map js _ in
      record {
        phones-in = (every-parts (is_phone book.phones) e W).1 (t.phones-in, end-phones U inside);
        long = length-append e W ∙ omega (arith, end-length U size);
        first = t.first;
        others = t.others;
        silence =
            ap (λ (i : ℕ). drop (i + (n + 1)) (e ++ W)) (sym many)
            ∙ drop-append-add e W (n + 1) ∙ drop_at U (replicate n 1) (n + 1) size;
      }

  pub passage-sentence : (x : Metastate) (js : List ℕ) → Constructed book x → Passage book x js
      → (Z : List ℕ) × Sentence book x js Z
  passage-sentence x js k r =
      let last : Metastate = last_along book x js in
      let kept = constructed-last x js k r.listed r.steps in
      let ends = ((may-end book (combinations book) last).0 r.ends).1 in
      go (ends-fits kept.formed ends)
    where
      go : (U : List ℕ) × (length U ≡ book.half + 1) × AllPhones book U
          × T (fits (last_along book x js).carried (U ++ replicate book.half 1))
          → (Z : List ℕ) × Sentence book x js Z
      go (U, size, inside, admitted) =
          let W : List ℕ = U ++ replicate book.half 1 in
          let enough : columns_of book ≤ length W = omega (arith, end-length U size) in
          let (e, t) = (chained x js W k r.listed (end-phones U inside) enough).0
          (r.steps, rw (last-carried book x js) at admitted) in
          (e ++ W, traced-sentence x js U e inside size t)

  -- a sentence, cut where the last window begins
  sentence-trace : (x : Metastate) (js Z : List ℕ) → Sentence book x js Z
      → Trace book x.carried (carriers_of book js) (drop (length js) Z) (take (length js) Z)
  sentence-trace x js Z s =
      let whole : Z ≡ take (length js) Z ++ drop (length js) Z = sym (take-append-drop (length js) Z) in
      record {
        as_many = length-take-le (length js) Z (omega (arith, s.long)) ∙ sym (length-map js _);
        phones-in = (every-split (is_phone book.phones) (length js) Z s.phones-in).0;
        first = subst (λ (z : List ℕ). T (fits x.carried z)) whole s.first;
        others = subst (λ (z : List ℕ). AdmitEach (carriers_of book js) (drop 1 z)) whole s.others;
      }

  -- the last window ends in silence
  last-ends : (x : Metastate) (js Z : List ℕ) → Constructed book (last_along book x js) → Sentence book x js Z
      → T (fits (last_along book x js).carried (drop (length js) Z))
      → T (end_test book (last_along book x js).carried)
  last-ends x js Z k s h =
      let n : ℕ = book.half in
      let W : List ℕ = drop (length js) Z in
      let size : length (take (n + 1) W) ≡ n + 1 =
      length-take-le (n + 1) W (rw length-drop (omega (arith, s.long))) in
      let silent : drop (n + 1) W ≡ replicate n 1 = drop-drop (n + 1) (length js) Z ∙ s.silence in
      let whole : W ≡ take (n + 1) W ++ replicate n 1 =
      sym (take-append-drop (n + 1) W) ∙ ap (λ (z : List ℕ). take (n + 1) W ++ z) silent in
      fits-ends k.formed.wide (take (n + 1) W) size
      (subst (λ (z : List ℕ). T (fits (last_along book x js).carried z)) whole h)

  pub sentence-passage : (x : Metastate) (js Z : List ℕ) → Constructed book x → Listed book js
      → Sentence book x js Z → phones_of book (x.number ∷ js) ! length js ≡ 1 → Passage book x js
  sentence-passage x js Z k l s e =
      let W : List ℕ = drop (length js) Z in
      let inside = (every-split (is_phone book.phones) (length js) Z s.phones-in).1 in
      let enough : columns_of book ≤ length W = rw length-drop (omega (arith, s.long)) in
      let (steps, admitted) = (chained x js W k l inside enough).1
      (take (length js) Z, sentence-trace x js Z s) in
      let ends = last-ends x js Z (constructed-last x js k l steps) s (rw (last-carried book x js) admitted) in
      let silence : phone_of (combinations book) (last_along book x js) ≡ 1 = last-phone book x js ∙ e in
      record {
        listed = l;
        steps = steps;
        ends = (may-end book (combinations book) (last_along book x js)).1 (silence, ends);
      }
