-- The ways through a book's metastates, as lists of combination numbers: numbers make a way exactly when each
-- combination admits its own window of the sequence of their phones with silence around it, and that sequence
-- begins and ends with silence. The start's cut (law 5 of Carrier) makes the left end silent, the end test the
-- right end. demand/Meaning.antt finds the one way of each sequence by it.
use Rattle.std.specs.Prelude.{◌≡◌, ◌↔◌, T, eqb}
use Rattle.std.proofs.Math.Path.{refl, sym, ap, ap₂}
use Rattle.std.proofs.Common.{◌∙◌, subst, take-append-drop}
use mathlib.Core.Logic.Iff
use mathlib.Core.List.{List, [], ◌∷◌, ◌++◌, append_assoc}
use Prim.Native.Nat.{ℕ, suc, ◌+◌, ◌-◌, ◌<◌}
use native.Mathlib.Omega.{arith}
use Rattle.std.proofs.Math.ListN.{length, take, drop, replicate, length-map}
use Rattle.std.proofs.Math.Seq.{drop-drop}
use Rattle.definitions.specs.Lists.{◌!◌, every, IsIn}
use Rattle.definitions.specs.Faults.{answered}
use Rattle.definitions.specs.BookLines.{is_phone}
use Rattle.definitions.specs.Tables.{Book}
use Rattle.definitions.specs.Combinations.{combinations}
use Rattle.definitions.specs.Metastates.{Metastate}
use Rattle.definitions.specs.Growing.{Room}
use Rattle.definitions.specs.Connecting.{Built, connect}
use Rattle.definitions.specs.Building.{network_in}
use Rattle.definitions.specs.TreesGive.{around, silences, with_silence, silent_ends}
use Rattle.definitions.proofs.Laws.Lists.Tests.{T_and, T-eqb}
use Rattle.definitions.proofs.Laws.Lists.Lists.{every-cons}
use Rattle.definitions.proofs.Laws.Books.Sound.{AllPhones, Sound}
use Rattle.definitions.proofs.Laws.Networks.Metastates.{metastates-equal, StartOf, start_is, follower-is}
use Rattle.definitions.proofs.Laws.Networks.Metastates.{may-end}
use Rattle.definitions.proofs.Laws.Trees.Contexts.{around-left, around-right, silences-length}
use Rattle.definitions.proofs.Laws.Trees.Contexts.{silent-length, silent-phones}
use Rattle.definitions.proofs.Construction.Finished.{table-holds}
use Rattle.definitions.proofs.Graph.Graph.{Way}
use Rattle.definitions.proofs.Demand.Carrier.{cut_of, fits, cut-wide, cut_fits, fits-holds}
use Rattle.definitions.proofs.Demand.Chains.{AdmitEach}
use Rattle.definitions.proofs.Demand.Chosen.{combination_at, chosen_at}
use Rattle.definitions.proofs.Demand.Network.{book_rules, graph_of}
use Rattle.definitions.proofs.Demand.Passages.{numbers_along, Listed, carriers_of, phones_of, step_of, along}
use Rattle.definitions.proofs.Demand.Passages.{last_along, Passage, onward-passage, passage-onward}
use Rattle.definitions.proofs.Demand.Sentences.{Constructed, Sentence, sentence-all, constructed-follower}
use Rattle.definitions.proofs.Demand.Sentences.{passage-sentence, sentence-passage, centres, last-phone}

module _ (book : Book) where
  -- the metastate where a sentence starts with a combination, and the metastates of a sequence of numbers
  abbrev start_of : (j : ℕ) → Metastate
  start_of j = record { number = j; carried = cut_of book (combination_at book j).carried }

  unfoldable pub way_of : List ℕ → List Metastate
  way_of [] = []
  way_of (j ∷ js) = start_of j ∷ along book (start_of j) js

  along-numbers : (x : Metastate) (js : List ℕ) → numbers_along (along book x js) ≡ js
  unfolding along
  along-numbers x [] = refl
  along-numbers x (j ∷ js) = ap (λ (l : List ℕ). j ∷ l) (along-numbers (step_of book x j) js)

  pub way_of-numbers : (js : List ℕ) → numbers_along (way_of js) ≡ js
  unfolding way_of
  way_of-numbers [] = refl
  way_of-numbers (j ∷ js) = ap (λ (l : List ℕ). j ∷ l) (along-numbers (start_of j) js)

  -- each combination admits its window, and the phones begin and end with silence
  pub record Admitted (js : List ℕ) : Type 0 where
    pub listed : Listed book js
    pub windows : AdmitEach (carriers_of book js) (with_silence book.half (phones_of book js))
    pub silent : T (silent_ends (phones_of book js))

module _ (book : Book) (sound : Sound book) where
  -- ---- a start metastate: its combination's windows that begin with silence

  start-windows : (x : Metastate) → StartOf book (combinations book) x → (Z : List ℕ)
      → T (fits x.carried Z)
      ↔ (T (fits (combination_at book x.number).carried Z)
      × (take book.half Z ≡ replicate book.half 1))
  start-windows x s Z =
      rw s.cut (cut_fits (chosen_at book sound x.number s.listed).formed.wide Z)

  constructed-start : (x : Metastate) → StartOf book (combinations book) x → Constructed book x
  constructed-start x s =
      let own = (chosen_at book sound x.number s.listed).formed.wide in
      record {
        listed = s.listed;
        formed = record { wide = rw s.cut (cut-wide own); holds = s.holds };
        inside = λ Z h. ((start-windows x s Z).0 h).0;
      }

  -- so every metastate of a build's table is one of the construction's
  pub table-constructed : (room : Room) (limit : ℕ) (built : Built)
      → connect (book_rules book) room limit ≡ answered built
      → (x : Metastate) → IsIn x (network_in built).table → Constructed book x
  table-constructed room limit built e =
      table-holds (book_rules book) (Constructed book) room limit built
      (λ x h. constructed-start x ((start_is book (combinations book) x).0 h))
      (λ x y k h. constructed-follower book sound x y k ((follower-is book (combinations book) x y).0 h)) e

  -- ---- from a way to windows

  -- a sentence from a start is the sequence of its centres with silence around it
  silent-around : (x : Metastate) (js Z : List ℕ) → StartOf book (combinations book) x → Listed book js
      → Sentence book x js Z
      → Z ≡ with_silence book.half (phones_of book (x.number ∷ js))
  unfolding around
  silent-around x js Z start l s =
      let n : ℕ = book.half in
      let count : ℕ = suc (length js) in
      let left : take n Z ≡ replicate n 1 = ((start-windows x start Z).0 s.first).1 in
      let all = sentence-all book x js Z (constructed-start x start) s in
      let middle : take count (drop n Z) ≡ phones_of book (x.number ∷ js) =
      centres book sound (x.number ∷ js) Z (start.listed, l) all (omega (arith, s.long)) in
      let place : n + count ≡ length js + (n + 1) = omega arith in
      let right : drop count (drop n Z) ≡ replicate n 1 = drop-drop count n Z ∙ rw place s.silence in
      sym (take-append-drop n Z)
      ∙ ap₂ ◌++◌ left (sym (take-append-drop count (drop n Z)) ∙ ap₂ ◌++◌ middle right)
      ∙ sym (append_assoc (replicate n 1) _ _)

  -- the first phone and the last
  ends-silent : (j : ℕ) (js : List ℕ) → T (silent_ends (phones_of book (j ∷ js)))
      ↔ (((combination_at book j).phone ≡ 1) × (phones_of book (j ∷ js) ! length js ≡ 1))
  unfolding silent_ends
  ends-silent j js =
      let first : ℕ = (combination_at book j).phone in
      let last : ℕ = phones_of book (j ∷ js) ! length js in
      let count : suc (length (phones_of book js)) - 1 ≡ length js =
      omega (arith, length-map js (λ i. (combination_at book i).phone)) in
      rw count (Iff.trans (T_and (eqb first 1) (eqb last 1)) (Iff.and (T-eqb first 1) (T-eqb last 1)))

  passage-admitted : (x : Metastate) (js : List ℕ) → StartOf book (combinations book) x
      → Passage book x js → Admitted book (x.number ∷ js)
  passage-admitted x js s p =
      let k = constructed-start x s in
      let (Z, sentence) = passage-sentence book sound x js k p in
      let all = sentence-all book x js Z k sentence in
      let around = silent-around x js Z s p.listed sentence in
      let ends = ((may-end book (combinations book) (last_along book x js)).0 p.ends).0 in
      record {
        listed = (s.listed, p.listed);
        windows = subst (AdmitEach (carriers_of book (x.number ∷ js))) around all;
        silent = (ends-silent x.number js).1 (s.silence, sym (last-phone book x js) ∙ ends);
      }

  pub way-admitted : (table ws : List Metastate) → Way (graph_of book table) ws
      → (ws ≡ way_of book (numbers_along ws)) × Admitted book (numbers_along ws)
  unfolding way_of
  way-admitted table [] w = absurd w
  way-admitted table (x ∷ us) (begin, onward) =
      let s = (start_is book (combinations book) x).0 begin in
      let (same, passage) = onward-passage book table x us onward in
      let js : List ℕ = numbers_along us in
      let e : x ≡ start_of book x.number = metastates-equal x (start_of book x.number) refl s.cut in
      (ap₂ ◌∷◌ e (same ∙ ap (λ z. along book z js) e), passage-admitted x js s passage)

  -- ---- from windows to a way

  -- where the combination admits the sequence with silence around it, a sentence may start
  admitted-start : (j : ℕ) (Z : List ℕ) → j < length (combinations book) → (combination_at book j).phone ≡ 1
      → T (fits (combination_at book j).carried Z) → take book.half Z ≡ replicate book.half 1
      → StartOf book (combinations book) (start_of book j) × T (fits (start_of book j).carried Z)
  admitted-start j Z l phone h left =
      let cut = (cut_fits (chosen_at book sound j l).formed.wide Z).1 (h, left) in
      (record { listed = l; silence = phone; cut = refl; holds = fits-holds _ Z cut }, cut)

  -- all phones of listed combinations are phones of the book
  pub listed-phones : (js : List ℕ) → Listed book js → AllPhones book (phones_of book js)
  unfolding every
  listed-phones [] l = tt
  listed-phones (j ∷ js) l =
      (every-cons (is_phone book.phones) (combination_at book j).phone (phones_of book js)).1
      ((chosen_at book sound j l.0).phone-of, listed-phones js l.1)

  admitted-sentence : (j : ℕ) (js : List ℕ) → Admitted book (j ∷ js)
      → T (fits (start_of book j).carried (with_silence book.half (phones_of book (j ∷ js))))
      → Sentence book (start_of book j) js (with_silence book.half (phones_of book (j ∷ js)))
  admitted-sentence j js a h =
      let n : ℕ = book.half in
      let S : List ℕ = phones_of book (j ∷ js) in
      let count : length S ≡ suc (length js) = ap suc (length-map js (λ i. (combination_at book i).phone)) in
      let place : n + length S ≡ length js + (n + 1) = omega arith in
      record {
        phones-in =
            silent-phones n S book.phones sound.some_phone (listed-phones (j ∷ js) a.listed);
        long = silent-length n S ∙ omega arith;
        first = h;
        others = a.windows.1;
        silence = rw place at (around-right (silences n) S (silences n) n (silences-length n));
      }

  pub admitted-way : (table : List Metastate) (js : List ℕ) → Admitted book js
      → Way (graph_of book table) (way_of book js)
  unfolding way_of silent_ends
  admitted-way table [] a = absurd a.silent
  admitted-way table (j ∷ js) a =
      let n : ℕ = book.half in
      let S : List ℕ = phones_of book (j ∷ js) in
      let Z : List ℕ = with_silence n S in
      let left = around-left (silences n) S (silences n) n (silences-length n) in
      let (first, last) = (ends-silent j js).0 a.silent in
      let (start, begins) = admitted-start j Z a.listed.0 first a.windows.0 left in
      let k = constructed-start (start_of book j) start in
      let sentence = admitted-sentence j js a begins in
      let passage = sentence-passage book sound (start_of book j) js Z k a.listed.1 sentence last in
      let begin = (start_is book (combinations book) (start_of book j)).1 start in
      (begin, passage-onward book table (start_of book j) js passage)
