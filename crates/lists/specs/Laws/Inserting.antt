-- Laws about a gap opened in words and columns written into it: with one more in its count, the list has the
-- matrix at the gap's place.
use Rattle.std.specs.Prelude.{◌≡◌, refl, List, [], ◌∷◌, true, false, ℕ, zero, suc, ◌+◌, ◌-◌, ◌≤◌, ◌<◌, ltb, eqb, length, get_or, set, take, drop}
use Rattle.std.proofs.Common.{sym, ap, ◌∙◌, subst, inl, inr, mul-le-mul_left, arith, length-set, length-append, length-drop, length-take-le, get_or-set_same, get_or-set_other, get_or-take, get_or-drop, get_or-append-add, le-leb, ltb-true, ltb-false, eqb-true}
use Rattle.std.proofs.Math.ListN.{get_or-append}
use Rattle.std.proofs.lemmas.List.{get_or_at}
use Rattle.std.proofs.lemmas.Bool.{lt-leb, eqb-false}
use Rattle.definitions.specs.Lists.{◌!◌}
use Rattle.definitions.specs.Matrices.{Matrix, most_columns, matrix_size}
use Rattle.definitions.specs.MatrixLists.{most_matrices}
use Rattle.definitions.proofs.Laws.Lists.Tests.{by-test}
use Rattle.matrix.specs.Shapes.{width_of, matrix_in}
use Rattle.lists.specs.Held.{start_of, matrix_at, list_in, Holds, Became}
use Rattle.lists.specs.Ordering.{inserted_at}
use Rattle.lists.specs.Inserting.{Opened, Put}
use Rattle.lists.specs.Laws.Held.{wide_enough, place-before, place-within, columns_are, columns-same, list_length}
use Rattle.lists.specs.Laws.Held.{list_at, list-is}

-- ---- the gap

pub gap-as : {size other from end : ℕ} {d s : List ℕ} → size ≡ other → Opened size from end d s
    → Opened other from end d s
gap-as {from = from} {end = end} {d = d} {s = s} e o = subst (λ (n : ℕ). Opened n from end d s) e o

-- ---- a list with a matrix put in before a place

module _ (place : ℕ) (m : Matrix) (l : List Matrix) (h : place ≤ length l) where
  pub inserted-length : length (inserted_at place m l) ≡ suc (length l)
  inserted-length =
      length-append (take place l) (m ∷ drop place l)
      ∙ omega (arith, length-take-le place l h, length-drop place l)

  inserted-low : (p : ℕ) → p < place → get_or (inserted_at place m l) p [] ≡ get_or l p []
  inserted-low p k =
      get_or-append (take place l) (m ∷ drop place l) [] p (omega (arith, length-take-le place l h))
      ∙ get_or-take place l p [] k

  inserted-here : get_or (inserted_at place m l) place [] ≡ m
  inserted-here = get_or_at (take place l) m (drop place l) [] place (length-take-le place l h)

  inserted-high : (q : ℕ) → place ≤ q → get_or (inserted_at place m l) (suc q) [] ≡ get_or l q []
  inserted-high q k =
      let there : suc q ≡ length (take place l) + suc (q - place) = omega (arith, length-take-le place l h) in
      let back : place + (q - place) ≡ q = omega arith in
      ap (λ (i : ℕ). get_or (inserted_at place m l) i []) there
      ∙ get_or-append-add (take place l) (m ∷ drop place l) (suc (q - place)) []
      ∙ get_or-drop place l (q - place) [] ∙ ap (λ (i : ℕ). get_or l i []) back

-- there is room for the gap
pub gap-fits : {half from end : ℕ} {d : List ℕ} → Holds half d → (place count : ℕ) → place ≤ count
    → count < most_matrices → from ≡ start_of half place → end ≡ start_of half count
    → (from ≤ end) × (end + matrix_size half ≤ length d)
gap-fits {half} r place count h k first last = (
  omega (arith, mul-le-mul_left {m = place} {n = count} (matrix_size half) h),
  omega (arith, place-before half count most_matrices k, r.space.room),
)

-- words in which the gap at a place was opened and filled, with one more in their count
module _ {half from end : ℕ} {columns d opened filled : List ℕ} (r : Holds half d)
    (place count : ℕ) (sized : length columns ≡ most_columns) (e : count ≡ d ! 0) (below : place ≤ count)
    (few : count < most_matrices) (first : from ≡ start_of half place) (last-is : end ≡ start_of half count)
    (o : Opened (matrix_size half) from end d opened) (p : Put columns from (width_of half) opened filled)
  where
    abbrev m : Matrix
    m = matrix_in half columns

    abbrev l : List Matrix
    l = list_in half d

    abbrev last : List ℕ
    last = set filled 0 (count + 1)

    last-length : length last ≡ length d
    last-length = length-set filled 0 (count + 1) ∙ p.sized ∙ o.sized

    counted : place ≤ length l
    counted = omega (arith, list_length half d, e, below)

    -- a word after the count
    word : (i : ℕ) → 0 < i → last ! i ≡ filled ! i
    word i h = get_or-set_other filled 0 i (count + 1) 0 (λ q. omega arith)

    room : (q : ℕ) → q < most_matrices → start_of half q + width_of half ≤ length last
    room q h = omega (arith, last-length, place-within r.space q h)

    before : (q : ℕ) → q < place → matrix_at half last q ≡ get_or (inserted_at place m l) q []
    before q h =
        let far = place-before half q place h in
        columns-same half last d (start_of half q) (start_of half q) (room q (omega arith))
        (place-within r.space q (omega arith))
        (λ c k. word (start_of half q + c) (omega arith)
        ∙ p.kept (start_of half q + c) (inl (omega (arith, wide_enough r.space)))
        ∙ o.kept (start_of half q + c) (omega (arith, wide_enough r.space)))
        ∙ sym (list_at half d q (omega (arith, e))) ∙ sym (inserted-low place m l counted q h)

    here : matrix_at half last place ≡ m
    here =
        columns_are half last (start_of half place) (room place (omega arith)) m
        (length-take-le (width_of half) columns (omega (arith, sized, r.space.narrow)))
        (λ c k.
        let there : start_of half place + c ≡ from + c = omega arith in
        word (start_of half place + c) (omega arith) ∙ ap (λ (j : ℕ). filled ! j) there ∙ p.put c k
        ∙ sym (get_or-take (width_of half) columns c 0 k))

    after : (q : ℕ) → place ≤ q → q < count
        → matrix_at half last (suc q) ≡ get_or (inserted_at place m l) (suc q) []
    after q h k =
        let low = mul-le-mul_left {m = place} {n = q} (matrix_size half) h in
        let high = place-before half q count k in
        columns-same half last d (start_of half (suc q)) (start_of half q) (room (suc q) (omega arith))
        (place-within r.space q (omega arith))
        (λ c i.
        let next : start_of half (suc q) + c ≡ start_of half q + c + matrix_size half = omega arith in
        word (start_of half (suc q) + c) (omega arith)
        ∙ p.kept (start_of half (suc q) + c) (inr (omega (arith, wide_enough r.space)))
        ∙ ap (λ (j : ℕ). opened ! j) next
        ∙ o.moved (start_of half q + c) (omega arith) (omega (arith, wide_enough r.space)))
        ∙ sym (list_at half d q (omega (arith, e))) ∙ sym (inserted-high place m l counted q h)

    at_each : (q : ℕ) → q < length (inserted_at place m l)
        → matrix_at half last q ≡ get_or (inserted_at place m l) q []
    at_each q h = by-test (ltb q place) (λ t. before q (ltb-true q place t))
        (λ t. by-test (eqb q place)
        (λ u.
        let there : q ≡ place = eqb-true q place u in
        rw there (here ∙ sym (inserted-here place m l counted)))
        (λ u.
        let beyond : place < q = omega (arith, ltb-false q place t, eqb-false q place u) in
        beyond-place q beyond h))
      where
        beyond-place : (q : ℕ) → place < q → q < length (inserted_at place m l)
            → matrix_at half last q ≡ get_or (inserted_at place m l) q []
        beyond-place zero b h = absurd (omega arith)
        beyond-place (suc q) b h =
            after q (omega arith)
            (omega (arith, inserted-length place m l counted, list_length half d, e))

    target-length : length (inserted_at place m l) ≡ count + 1
    target-length = inserted-length place m l counted ∙ omega (arith, list_length half d, e)

    pub inserted : Became half (inserted_at place m l) true d last
    inserted = record {
      judged = sym (le-leb (length (inserted_at place m l)) most_matrices (omega (arith, target-length)));
      sized = last-length;
      held = λ t.
          list-is half last (inserted_at place m l)
          (get_or-set_same filled 0 (count + 1) 0 (omega (arith, p.sized, o.sized, r.space.room))
          ∙ sym target-length)
          at_each;
    }

-- a ninth matrix does not fit
pub ninth : {half : ℕ} {d : List ℕ} (place : ℕ) (m : Matrix) → place ≤ d ! 0 → d ! 0 ≡ most_matrices
    → Became half (inserted_at place m (list_in half d)) false d d
ninth {half} {d} place m h e =
    let l : List Matrix = list_in half d in
    let counted = list_length half d in
    record {
      judged = sym (lt-leb (length (inserted_at place m l)) most_matrices
          (omega (arith, inserted-length place m l (omega arith))));
      sized = refl;
      held = λ t. absurd t;
    }
