-- From every metastate of the construction some way leads on to the end of a sentence. It admits some window: go
-- on with the phones right of that window's centre, then end with silence. By the choice of a combination for
-- each window this is a sentence. So every arc lies on an accepting path.
use Rattle.std.specs.Prelude.{◌≡◌, List, ◌∷◌, ◌++◌, ℕ, suc, ◌+◌, T, length, drop, replicate}
use Rattle.std.proofs.Common.{sym, ap, ◌∙◌, subst, arith, length-append, length-drop, get_or-append-add, take_at}
use Rattle.std.proofs.lemmas.List.{length-replicate}
use Rattle.std.proofs.Math.Seq.{drop-append-add}
use Rattle.definitions.specs.Lists.{◌!◌}
use Rattle.definitions.specs.BookLines.{is_phone}
use Rattle.definitions.specs.Tables.{Book}
use Rattle.definitions.specs.Metastates.{Metastate}
use Rattle.definitions.proofs.Laws.Lists.Lists.{every-parts, every-split, part_at}
use Rattle.definitions.proofs.Laws.Books.Sound.{AllPhones, Sound}
use Rattle.definitions.proofs.Laws.Trees.Contexts.{silence-phones}
use Rattle.definitions.proofs.Graph.Graph.{Alive}
use Rattle.definitions.proofs.Demand.Carrier.{fits, fits-take, SomeWindow, holds_fits}
use Rattle.definitions.proofs.Demand.ChoicesAlong.{Along, choices-along}
use Rattle.definitions.proofs.Demand.Network.{graph_of}
use Rattle.definitions.proofs.Demand.Passages.{phones_of, along, passage-onward}
use Rattle.definitions.proofs.Demand.Sentences.{centres, Constructed, Sentence, sentence-all}
use Rattle.definitions.proofs.Demand.Sentences.{sentence-passage}

module _ (book : Book) (sound : Sound book) (x : Metastate) (kept : Constructed book x) where
  abbrev n : ℕ
  n = book.half

  -- a window that the metastate admits, then silence
  window : SomeWindow book x.carried
  window = holds_fits kept.formed

  abbrev Z : List ℕ
  Z = window.window ++ replicate (suc n) 1

  window-length : length window.window ≡ n + n + 1
  window-length = window.size

  onward-length : length Z ≡ n + n + 1 + suc n
  onward-length = length-append window.window (replicate (suc n) 1) ∙ rw (window-length, length-replicate)

  onward-phones : AllPhones book Z
  onward-phones =
      let silent = silence-phones book.phones (suc n) sound.some_phone in
      (every-parts (is_phone book.phones) window.window (replicate (suc n) 1)).1 (window.phones-in, silent)

  onward-admitted : T (fits x.carried Z)
  onward-admitted =
      subst T
      (ap (fits x.carried) (sym (take_at window.window (replicate (suc n) 1) _ window.size))
      ∙ fits-take kept.formed.wide Z)
      window.admitted

  -- the combinations that admit what follows
  onward : (js : List ℕ) × Along book (suc n) (drop 1 Z) js
  onward =
      choices-along book sound (suc n) (drop 1 Z) (rw length-drop (omega (arith, onward-length)))
      (every-split (is_phone book.phones) 1 Z onward-phones).1

  onward-sentence : Sentence book x onward.0 Z
  onward-sentence =
      let js : List ℕ = onward.0 in
      let many : length js ≡ suc n = onward.1.as_many in
      let place : length js + (n + 1) ≡ length window.window + 1 = omega (arith, window-length) in
      record {
        phones-in = onward-phones;
        long = omega (arith, onward-length);
        first = onward-admitted;
        others = onward.1.admitted;
        silence = rw place (drop-append-add window.window (replicate (suc n) 1) 1);
      }

  -- the last centre is silence
  onward-ends : phones_of book (x.number ∷ onward.0) ! length onward.0 ≡ 1
  onward-ends =
      let js : List ℕ = onward.0 in
      let many : length js ≡ suc n = onward.1.as_many in
      let all = sentence-all book x js Z kept onward-sentence in
      let middle = centres book sound (x.number ∷ js) Z (kept.listed, onward.1.listed) all
      (omega (arith, onward-length)) in
      let place : n + length js ≡ length window.window + 0 = omega (arith, window-length) in
      ap (λ (l : List ℕ). l ! length js) (sym middle)
      ∙ part_at (suc (length js)) n Z (length js) 0 (omega arith)
      ∙ rw place (get_or-append-add window.window (replicate (suc n) 1) 0 0)

  pub constructed-alive : (table : List Metastate) → Alive (graph_of book table) x
  constructed-alive table =
      let (js, a) = onward in
      let passage = sentence-passage book sound x js Z kept a.listed onward-sentence onward-ends in
      (along book x js, passage-onward book table x js passage)
