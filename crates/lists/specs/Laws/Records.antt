-- Laws about the words of a list in a record: written matrix by matrix into cleared words, and read back.
use Rattle.std.specs.Prelude.{◌≡◌, ltb, set, take, drop}
use Rattle.std.proofs.Math.Path.{refl, sym, ap}
use Rattle.std.proofs.Common.{ap₂, ◌∙◌, inl, inr, add-one, length-append, length-drop, length-take-le, take-suc, take_all, take-take, get_or-take, get_or-drop, get_or-append-add, ext_get_or, ltb-true, ltb-false}
use mathlib.Core.List.{List, [], ◌∷◌, ◌++◌, append_assoc}
use Prim.Native.Nat.{ℕ, suc, ◌+◌, ◌-◌, ◌*◌, ◌≤◌, ◌<◌}
use Rattle.std.proofs.Math.Nat.{mul-le-mul_left}
use native.Mathlib.Omega.{arith}
use Rattle.std.proofs.Math.ListN.{length, get_or, get_or-append}
use Rattle.std.proofs.lemmas.List.{length-replicate, replicate-append-replicate}
use Rattle.definitions.specs.Lists.{◌!◌, concat_map, cleared, padded}
use Rattle.definitions.specs.Matrices.{Matrix, most_half, matrix_size, matrix_record}
use Rattle.definitions.specs.MatrixLists.{most_matrices, list_size, list_record}
use Rattle.definitions.proofs.Laws.Lists.Lists.{concat_map-snoc, padded-length, padded-take, padded-none, map_at}
use Rattle.definitions.proofs.Laws.Lists.Members.{in-at}
use Rattle.definitions.proofs.Laws.Lists.Records.{written-length, written-records, record-at}
use Rattle.definitions.proofs.Laws.Lists.Tests.{by-test}
use Rattle.definitions.proofs.Laws.Matrices.Sizes.{columns-held, record-length}
use Rattle.lines.specs.Putting.{put_at}
use Rattle.lines.specs.Laws.Putting.{put-after}
use Rattle.matrix.specs.Shapes.{width_of, matrix_in}
use Rattle.lists.specs.Held.{start_of, list_in, HasRoom, Holds}
use Rattle.lists.specs.Inserting.{Put}
use Rattle.lists.specs.Laws.Held.{list-is}
use Rattle.lists.specs.Laws.Hulls.{AllWide}

-- ---- words put one by one are the words put at once

put_is : {new : List ℕ} {from count : ℕ} {d s : List ℕ} → Put new from count d s → length new ≡ count
    → from + count ≤ length d → s ≡ put_at from new d
unfolding put_at
put_is {new} {from} {count} {d} {s} p e h =
    ext_get_or 0 s (take from d ++ new ++ drop (from + length new) d) sizes at_each
  where
    front : length (take from d) ≡ from
    front = length-take-le from d (omega arith)

    both : length (take from d ++ new) ≡ from + count
    both = length-append (take from d) new ∙ omega (arith, front, e)

    sizes : length s ≡ length (take from d ++ new ++ drop (from + length new) d)
    sizes =
        p.sized
        ∙ sym (length-append (take from d ++ new) (drop (from + length new) d)
        ∙ omega (arith, both, e, length-drop (from + length new) d))

    at_each : (i : ℕ) → i < length s → s ! i ≡ (take from d ++ new ++ drop (from + length new) d) ! i
    at_each i k = by-test (ltb i (from + count))
        (λ t.
        let inside : i < from + count = ltb-true i (from + count) t in
        before inside
        ∙ sym (get_or-append (take from d ++ new) (drop (from + length new) d) 0 i (omega (arith, both))))
        (λ t.
        let beyond : from + count ≤ i = ltb-false i (from + count) t in
        let place : i ≡ length (take from d ++ new) + (i - (from + count)) = omega (arith, both) in
        let back : from + length new + (i - (from + count)) ≡ i = omega (arith, e) in
        p.kept i (inr beyond)
        ∙ sym (ap (λ (j : ℕ). (take from d ++ new ++ drop (from + length new) d) ! j) place
        ∙ get_or-append-add (take from d ++ new) (drop (from + length new) d) (i - (from + count)) 0
        ∙ get_or-drop (from + length new) d (i - (from + count)) 0 ∙ ap (λ (j : ℕ). d ! j) back))
      where
        before : i < from + count → s ! i ≡ (take from d ++ new) ! i
        before inside = by-test (ltb i from)
            (λ t.
            let low : i < from = ltb-true i from t in
            p.kept i (inl low)
            ∙ sym (get_or-append (take from d) new 0 i (omega (arith, front)) ∙ get_or-take from d i 0 low))
            (λ t.
            let high : from ≤ i = ltb-false i from t in
            let place : i ≡ from + (i - from) = omega arith in
            let there : i ≡ length (take from d) + (i - from) = omega (arith, front) in
            ap (λ (j : ℕ). s ! j) place ∙ p.put (i - from) (omega arith)
            ∙ sym (ap (λ (j : ℕ). (take from d ++ new) ! j) there
            ∙ get_or-append-add (take from d) new (i - from) 0))

put-cons : (at : ℕ) (words : List ℕ) (x : ℕ) (table : List ℕ)
    → put_at (suc at) words (x ∷ table) ≡ x ∷ put_at at words table
unfolding put_at
put-cons at words x table =
    let past : suc at + length words ≡ suc (at + length words) = omega arith in
    rw past

-- zeros after the used words are used or not
padded-more : (size : ℕ) (used : List ℕ) (more : ℕ) → length used + more ≤ size
    → padded size used ≡ padded size (used ++ cleared more)
unfolding padded
padded-more size used more h =
    let fewer : more + (size - (length used + more)) ≡ size - length used = omega arith in
    sym (rw (length-append, length-replicate, append_assoc, replicate-append-replicate, fewer))

padded-part : (whole : ℕ) (used : List ℕ) (size : ℕ) (x : List ℕ) → length used + size ≤ whole → length x ≤ size
    → padded whole (used ++ x) ≡ padded whole (used ++ padded size x)
unfolding padded
padded-part whole used size x h k =
    padded-more whole (used ++ x) (size - length x) (omega (arith, length-append used x))
    ∙ ap (padded whole) (append_assoc used x (cleared (size - length x)))

-- ---- a list written into cleared words

-- the matrices before a place are written
pub record Written (half : ℕ) (l : List Matrix) (place : ℕ) (s : List ℕ) : Type 0 where
  pub within : place ≤ length l
  pub filled : length (concat_map (matrix_record half) (take place l)) ≡ matrix_size half * place
  pub holds : s ≡ length l ∷ padded (most_matrices * matrix_size half) (concat_map (matrix_record half) (take place l))

pub cleared-sized : (half : ℕ) {d : List ℕ} → d ≡ cleared (list_size half) → length d ≡ list_size half
cleared-sized half e = ap length e ∙ length-replicate (list_size half) 0

pub written_start : (half : ℕ) (l : List Matrix) {d : List ℕ} {count : ℕ} → d ≡ cleared (list_size half)
    → count ≡ length l → Written half l 0 (set d 0 count)
unfolding concat_map
written_start half l {d} {count} e n =
    let more : list_size half ≡ suc (most_matrices * matrix_size half) = omega arith in
    record {
      within = omega arith;
      filled = omega arith;
      holds = rw (e, more, n) (ap (λ (t : List ℕ). length l ∷ t) (padded-none (most_matrices * matrix_size half)));
    }

module _ {half : ℕ} (narrow : half ≤ most_half) where
  -- what a matrix of the book's width takes
  its-record : (x : Matrix) → length x ≡ width_of half → length (matrix_record half x) ≡ matrix_size half
  its-record x e = record-length half narrow x e

  module _ {l : List Matrix} {place : ℕ} {s : List ℕ} (w : Written half l place s) where
    abbrev size : ℕ
    size = matrix_size half

    abbrev used : List ℕ
    used = concat_map (matrix_record half) (take place l)

    module _ (few : length l ≤ most_matrices) where
      room : size * place ≤ most_matrices * size
      room = omega (arith, mul-le-mul_left {m = place} {n = most_matrices} size (omega (arith, w.within)))

      pub written-sized : length s ≡ list_size half
      written-sized =
          ap length w.holds
          ∙ omega (arith, padded-length (most_matrices * size) used (omega (arith, room, w.filled)))

      pub written-room : HasRoom half s
      written-room = record { narrow = narrow; room = omega (arith, written-sized) }

      pub written-more : (x : Matrix) {from : ℕ} {s' : List ℕ} → place < length l → get_or l place [] ≡ x
          → length x ≡ width_of half → from ≡ start_of half place → Put x from (width_of half) s s'
          → Written half l (place + 1) s'
      unfolding matrix_record
      written-more x {from} {s'} h e sized first p =
          record { within = omega arith; filled = ap length grown ∙ filled'; holds = held ∙ rw grown }
        where
          wide : length x ≤ size
          wide = omega (arith, sized, columns-held half narrow)

          grown : concat_map (matrix_record half) (take (place + 1) l) ≡ used ++ matrix_record half x
          grown =
              ap (concat_map (matrix_record half)) (rw (add-one, take-suc l place [] h, e))
              ∙ concat_map-snoc (matrix_record half) (take place l) x

          filled' : length (used ++ matrix_record half x) ≡ size * (place + 1)
          filled' =
              length-append used (matrix_record half x) ∙ omega (arith, w.filled, its-record x sized)

          last : size * place + size ≤ most_matrices * size
          last = omega (arith, mul-le-mul_left {m = suc place} {n = most_matrices} size (omega arith))

          held : s' ≡ length l ∷ padded (most_matrices * size) (used ++ matrix_record half x)
          held =
              let place_is : from ≡ suc (length used) = omega (arith, w.filled) in
              put_is p sized (omega (arith, written-sized, last, wide))
              ∙ ap₂ (λ (i : ℕ) (t : List ℕ). put_at i x t) place_is w.holds
              ∙ put-cons (length used) x (length l) (padded (most_matrices * size) used)
              ∙ ap (λ (t : List ℕ). length l ∷ t)
              (put-after (most_matrices * size) used x
              ∙ padded-part (most_matrices * size) used size x (omega (arith, last, w.filled)) wide)

    pub written-end : length l ≤ place → s ≡ list_record half l
    unfolding list_record
    written-end h = w.holds ∙ rw (take_all place l h)

  -- ---- a list read back

  -- a list of at most eight matrices of the book's width is what its words hold
  module _ (l : List Matrix) (sized : AllWide (width_of half) l) where
    abbrev rest : List ℕ
    rest = padded (most_matrices * matrix_size half) (concat_map (matrix_record half) l)

    there : (place : ℕ) → place < length l
        → take (matrix_size half) (drop (matrix_size half * place) rest) ≡ matrix_record half (get_or l place [])
    unfolding padded
    there place h =
        sym (record-at (matrix_size half) (length l) rest place h)
        ∙ ap (λ (k : List (List ℕ)). get_or k place [])
        (written-records (matrix_record half) (matrix_size half) l (λ x i. its-record x (sized x i)) _)
        ∙ map_at (matrix_record half) l [] [] place h

    -- and they do hold it
    pub words-hold : length l ≤ most_matrices → Holds half (list_record half l)
    unfolding list_record
    words-hold few =
        let used : length (concat_map (matrix_record half) l) ≡ matrix_size half * length l =
        written-length (matrix_record half) (matrix_size half) l (λ x i. its-record x (sized x i)) in
        let most = mul-le-mul_left {m = length l} {n = most_matrices} (matrix_size half) few in
        let all = padded-length (most_matrices * matrix_size half) (concat_map (matrix_record half) l)
        (omega (arith, used, most)) in
        record { space = record { narrow = narrow; room = omega (arith, all) }; few = few }

    pub words_back : list_in half (list_record half l) ≡ l
    unfolding list_record matrix_record
    words_back = list-is half (length l ∷ rest) l refl (λ place h.
        let first : start_of half place ≡ suc (matrix_size half * place) = omega arith in
        let own = sized (get_or l place []) (in-at l place [] h) in
        ap (λ (i : ℕ). matrix_in half (drop i (length l ∷ rest))) first
        ∙ sym (take-take (width_of half) (matrix_size half) (drop (matrix_size half * place) rest)
        (columns-held half narrow))
        ∙ ap (matrix_in half) (there place h)
        ∙ padded-take (matrix_size half) (width_of half) (get_or l place []) (sym own))
