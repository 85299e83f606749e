-- Laws about the shift: the columns of a shifted matrix, and a list changed matrix by matrix into other words.
use Rattle.std.specs.Prelude.{◌≡◌, refl, List, [], ◌∷◌, map, true, ℕ, ◌+◌, ◌-◌, ◌≤◌, ◌<◌, ltb, length, get_or, set, drop}
use Rattle.std.proofs.Common.{sym, ap, ◌∙◌, inl, arith, length-append, length-drop, get_or-set_same, le-leb, ltb-true, ltb-false}
use Rattle.std.proofs.lemmas.List.{length-map}
use Rattle.definitions.specs.Lists.{◌!◌}
use Rattle.definitions.specs.Matrices.{Matrix, shift}
use Rattle.definitions.specs.MatrixLists.{most_matrices, shift_list}
use Rattle.definitions.specs.PhoneSets.{all_phones}
use Rattle.definitions.proofs.Laws.Lists.Lists.{map_at}
use Rattle.definitions.proofs.Laws.Lists.Tests.{by-test}
use Rattle.matrix.specs.Shapes.{width_of}
use Rattle.lists.specs.Held.{start_of, matrix_at, HasRoom, Became}
use Rattle.lists.specs.Inserting.{Put}
use Rattle.lists.specs.Shifting.{shifted_by}
use Rattle.lists.specs.Laws.Held.{wide_enough, place-before, place-within}
use Rattle.lists.specs.Laws.Held.{columns_are, columns-same, list-is}

-- ---- the columns of a shifted matrix

module _ (all : ℕ) (m : Matrix) {width : ℕ} (e : length m ≡ width) (some : 0 < width) where
  rest-length : length (drop 1 m) ≡ width - 1
  rest-length = length-drop 1 m ∙ omega arith

  pub shifted-length : length (shifted_by all m) ≡ width
  shifted-length = length-append (drop 1 m) (all ∷ []) ∙ omega (arith, rest-length)

-- with all phones it is the shift
pub shift-list : (phones : ℕ) (l : List Matrix) → map (shifted_by (all_phones phones)) l ≡ shift_list phones l
unfolding shift_list shift
shift-list phones l = refl

-- ---- a list changed matrix by matrix

-- words s, which were d, whose matrices before a place are those of l, changed
pub record Mapped (half : ℕ) (f : Matrix → Matrix) (l : List Matrix) (place : ℕ) (d s : List ℕ) : Type 0
  where
    pub within : place ≤ length l
    pub sized : length s ≡ length d
    pub counted : s ! 0 ≡ length l
    pub done : (q : ℕ) → q < place → matrix_at half s q ≡ f (get_or l q [])

module _ {half : ℕ} {d : List ℕ} (r : HasRoom half d) (f : Matrix → Matrix) (l : List Matrix) where
  pub mapped-start : {count : ℕ} → count ≡ length l
      → Mapped half f l 0 (set d 0 count) (set d 0 count)
  mapped-start {count} e = record {
    within = omega arith;
    sized = refl;
    counted = get_or-set_same d 0 count 0 (omega (arith, r.room)) ∙ e;
    done = λ q h. absurd (omega arith);
  }

module _ {half : ℕ} {f : Matrix → Matrix} {l : List Matrix} {place : ℕ} {d s : List ℕ}
    (r : HasRoom half d) (few : length l ≤ most_matrices) (p : Mapped half f l place d s)
  where
    pub mapped-more : {new s' : List ℕ} {from : ℕ} → place < length l → from ≡ start_of half place
        → length new ≡ width_of half → new ≡ f (get_or l place []) → Put new from (width_of half) s s'
        → Mapped half f l (place + 1) d s'
    mapped-more {new} {s'} {from} h first e n put = record {
      within = omega arith;
      sized = put.sized ∙ p.sized;
      counted = put.kept 0 (inl (omega arith)) ∙ p.counted;
      done = λ q k. by-test (ltb q place) (λ t. earlier q (ltb-true q place t))
          (λ t. let here : q ≡ place = omega (arith, ltb-false q place t) in rw here now-there);
    }
      where
        room : (q : ℕ) → q ≤ place → start_of half q + width_of half ≤ length d
        room q k = place-within r q (omega arith)

        earlier : (q : ℕ) → q < place → matrix_at half s' q ≡ f (get_or l q [])
        earlier q k =
            columns-same half s' s (start_of half q) (start_of half q)
            (omega (arith, room q (omega arith), put.sized, p.sized))
            (omega (arith, room q (omega arith), p.sized))
            (λ c i. put.kept (start_of half q + c)
            (inl (omega (arith, place-before half q place k, wide_enough r))))
            ∙ p.done q k

        now-there : matrix_at half s' place ≡ f (get_or l place [])
        now-there =
            columns_are half s' (start_of half place)
            (omega (arith, room place (omega arith), put.sized, p.sized)) new e
            (λ c i.
            let there : start_of half place + c ≡ from + c = omega arith in
            ap (λ (j : ℕ). s' ! j) there ∙ put.put c i)
            ∙ n

    pub mapped_end : length l ≤ place → Became half (map f l) true d s
    mapped_end h = record {
      judged = sym (le-leb (length (map f l)) most_matrices (omega (arith, length-map l f)));
      sized = p.sized;
      held = λ t.
          list-is half s (map f l) (p.counted ∙ sym (length-map l f))
          (λ q k.
          let inside : q < length l = omega (arith, length-map l f) in
          p.done q (omega arith) ∙ sym (map_at f l [] [] q inside));
    }
