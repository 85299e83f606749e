-- Laws about a network held in lent words: its metastates are told by their words, and have matrices of one width;
-- arcs more are held; and cleared words hold none.
use Rattle.std.specs.Prelude.{◌≡◌, refl, length}
use Rattle.std.proofs.Common.{sym, ap₂, ◌∙◌, subst, length-take-le}
use Rattle.std.proofs.Math.Path.{ap}
use mathlib.Core.List.{List, ◌∷◌, ◌++◌}
use Prim.Native.Nat.{ℕ, suc, ◌+◌, ◌/◌, ◌≤◌, ◌<◌}
use native.Mathlib.Omega.{arith}
use Rattle.std.proofs.Math.ListN.{take}
use Rattle.std.proofs.lemmas.List.{length-replicate}
use Rattle.definitions.specs.Lists.{concat_map, cleared, padded}
use Rattle.definitions.specs.Arcs.{Arc, arc_words}
use Rattle.definitions.specs.Matrices.{matrix_words, matrix_size, matrix_record}
use Rattle.definitions.specs.Metastates.{Metastate, metastate_size, metastate_words}
use Rattle.definitions.specs.Building.{room_in}
use Rattle.definitions.specs.Connecting.{Network, no_network}
use Rattle.definitions.proofs.Laws.Networks.Metastates.{metastates-equal}
use Rattle.definitions.proofs.Laws.Lists.Lists.{padded-take}
use Rattle.definitions.proofs.Laws.Lists.Records.{records-within}
use Rattle.definitions.proofs.Laws.Matrices.Sizes.{columns-held, record-length, value-record}
use Rattle.matrix.specs.Shapes.{width_of, matrix_in, HasWidth}
use Rattle.matrix.specs.Laws.Widths.{width-taken}
use Rattle.growing.specs.Chains.{Coded, heads_in}
use Rattle.growing.specs.Kept.{Kept}
use Rattle.growing.specs.Steps.{arc_room}
use Rattle.growing.specs.Laws.KeptBack.{kept-none}
use Rattle.growing.specs.Laws.KeptMore.{with_arcs, kept-arcs}
use Rattle.metastates.specs.Keys.{key_of}
use Rattle.metastates.specs.Networks.{metastate_in, metastate_with, metastate_code}
use Rattle.metastates.specs.Networks.{metastate_room, room_of, Holds}

-- ---- a metastate and its words

pub metastate-coded : (half : ℕ) → half ≤ 3 → (x : Metastate) → length x.carried ≡ width_of half
    → Coded (metastate_code half) x
unfolding metastate_in metastate_words matrix_record
metastate-coded half few x e = record {
  sized = omega (arith, record-length half few x.carried e);
  back = metastates-equal _ x refl (padded-take (matrix_size half) (width_of half) x.carried (sym e));
}

-- and back: one that is told by its words has the width
pub coded-wide : (half : ℕ) → half ≤ 3 → {x : Metastate} → Coded (metastate_code half) x
    → length x.carried ≡ width_of half
unfolding metastate_in metastate_words
coded-wide half few {x} told =
    let held : width_of half ≤ length (matrix_record half x.carried) =
    omega (arith, told.sized, columns-held half few) in
    ap (λ (y : Metastate). length y.carried) (sym told.back)
    ∙ length-take-le (width_of half) (matrix_record half x.carried) held

-- one whose matrix in seven words has the book's width: its key, and its words
module _ (half number : ℕ) (columns : List ℕ) (few : half ≤ 3) (shaped : HasWidth (width_of half) columns) where
  abbrev x : Metastate
  x = metastate_with half number columns

  pub metastate-wide : length (matrix_in half columns) ≡ width_of half
  metastate-wide = width-taken (omega (arith, few)) shaped

  pub metastate-key : key_of (number ∷ columns) ≡ key_of (number ∷ matrix_words (matrix_in half columns))
  metastate-key = ap (λ (l : List ℕ). key_of (number ∷ l)) shaped

  pub metastate-row : take (metastate_size half) (number ∷ columns) ≡ metastate_words half x
  unfolding metastate_words
  metastate-row =
      let first : metastate_size half ≡ suc (matrix_size half) = omega arith in
      ap (λ (k : ℕ). take k (number ∷ columns)) first
      ∙ ap (λ (l : List ℕ). number ∷ l)
      (ap (take (matrix_size half)) shaped ∙ value-record half few (matrix_in half columns) metastate-wide)

-- ---- a network

-- the room depends on the lengths alone
pub same-room : (half : ℕ) (metastates metastates' arcs arcs' : List ℕ) → length metastates' ≡ length metastates
    → length arcs' ≡ length arcs → room_of half metastates arcs ≡ room_of half metastates' arcs'
same-room half metastates metastates' arcs arcs' e f =
    ap₂ (λ (m a : ℕ). room_in half (record { combinations = 0; metastates = m; arcs = a })) (sym e) (sym f)

pub holds-arcs : {half count : ℕ} {net : Network} {metastates arcs chains : List ℕ}
    → Holds half count net metastates arcs chains → (added : List Arc) {arcs' : List ℕ}
    → length net.arcs + length added ≤ arc_room arcs
    → arcs' ≡ padded (length arcs) (concat_map arc_words (net.arcs ++ added))
    → (length arcs' ≡ length arcs) × Holds half count (with_arcs net added) metastates arcs' chains
unfolding room_in
holds-arcs {half} {net = net} {metastates} {arcs} {chains} held added {arcs'} h f =
    let (size, kept) = kept-arcs held.kept added h f in (
      size,
      record {
        kept =
            subst (λ room. Kept (metastate_code half) room (with_arcs net added) metastates arcs' chains)
            (same-room half metastates metastates arcs arcs' refl size) kept;
        numbers = held.numbers;
      },
    )

pub held-empty : (half count m n : ℕ) {chains : List ℕ} → chains ≡ cleared (length chains)
    → metastate_room half (cleared m) < heads_in chains → Holds half count no_network (cleared m) (cleared n) chains
unfolding room_in
held-empty half count m n {chains} e h = record {
  kept =
      kept-none (metastate_code half) (room_of half (cleared m) (cleared n)) m n e h
      (records-within (metastate_size half) _
      (omega (arith, ap (λ (k : ℕ). k / metastate_size half) (length-replicate {A = ℕ} m 0))))
      (omega (arith, length-replicate {A = ℕ} n 0));
  numbers = λ x h. absurd h;
}
