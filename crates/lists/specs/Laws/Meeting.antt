-- Laws about lists that meet: a matrix met with one in words, a list gathered part by part, and that two lists meet
-- where some pair does.
use Rattle.std.specs.Prelude.{◌≡◌, refl, Bool, true, false, not, ◌||◌, ℕ, suc, ◌+◌, ◌≤◌, ◌<◌, T, eqb, take, drop, get_or}
use Rattle.std.proofs.Math.Path.{sym, ap}
use Rattle.std.proofs.Common.{ap₂, ◌∙◌, subst, add-one, arith, drop_of_length-le, length-take-le, drop-cons, le-leb, leb-false, eq-eqb, ne_eqb}
use mathlib.Core.List.{List, [], ◌∷◌, ◌++◌, map}
use Rattle.std.proofs.Math.Bool.{or-true, or-false}
use Rattle.std.proofs.Math.ListN.{length}
use Rattle.std.proofs.lemmas.Bool.{lt-leb}
use Rattle.definitions.specs.Lists.{◌!◌, at_least_one, concat_map, same, precedes}
use Rattle.definitions.specs.Matrices.{Matrix, most_half, most_columns, matrix_words, meet, valid}
use Rattle.definitions.specs.Meeting.{met_words}
use Rattle.definitions.specs.MatrixLists.{most_matrices, insert_matrix, added, gather, meet_lists, holds_some}
use Rattle.definitions.specs.MatrixLists.{pairs_met}
use Rattle.definitions.proofs.Laws.Lists.Tests.{by-test}
use Rattle.definitions.proofs.Laws.Matrices.Matrices.{meet-length}
use Rattle.definitions.proofs.Laws.Matrices.Meeting.{valid-met}
use Rattle.definitions.proofs.Laws.Matrices.MatrixLists.{gather-longer, gather_append}
use Rattle.definitions.proofs.Laws.Matrices.SevenWords.{words-length}
use Rattle.matrix.specs.Shapes.{width_of, matrix_in}
use Rattle.matrix.specs.Laws.Meeting.{first-tells, met-test}
use Rattle.matrix.specs.Laws.Widths.{matrix-back}
use Rattle.lists.specs.Held.{list_in, Holds, Became}
use Rattle.lists.specs.Meeting.{meets_some}
use Rattle.lists.specs.Laws.Held.{became-holds, list_length, unchanged}

-- ---- a matrix met with another of the book's width

module _ {half : ℕ} (narrow : half ≤ most_half) (columns : List ℕ) (seven : length columns ≡ most_columns)
    (x : Matrix) (e : length x ≡ width_of half) {other : List ℕ} (o : other ≡ matrix_words x) {width : ℕ}
    (w : width ≡ width_of half)
  where
    module _ {met : List ℕ} (q : met ≡ met_words (take width columns) (take width other)) where
      tells : not (eqb (met ! 0) 0) ≡ valid (meet (matrix_in half columns) x)
      tells =
          met-test columns x e o w
          (first-tells columns other width seven (ap length o ∙ words-length x (omega (arith, e)) ∙ sym seven)
          (omega arith) q)

      pub met-none : met ! 0 ≡ 0 → valid (meet (matrix_in half columns) x) ≡ false
      met-none z = sym tells ∙ rw (eq-eqb (met ! 0) 0 z)

      pub met_some : (met ! 0 ≡ 0 → ⊥) → valid (meet (matrix_in half columns) x) ≡ true
      met_some n = sym tells ∙ rw (ne_eqb (met ! 0) 0 n)

      pub met-is : (met ! 0 ≡ 0 → ⊥) → matrix_in half met ≡ meet (matrix_in half columns) x
      met-is n =
          let own : length (matrix_in half columns) ≡ width_of half =
          length-take-le (width_of half) columns (omega (arith, seven)) in
          matrix-back (meet (matrix_in half columns) x) (meet-length (matrix_in half columns) x (own ∙ sym e) ∙ own)
          (q ∙ ap (λ (k : ℕ). met_words (take k columns) (take k other)) w
          ∙ ap (met_words (matrix_in half columns)) (matrix-back x e o)
          ∙ valid-met (matrix_in half columns) x (met_some n))

-- ---- one matrix more

module _ {half : ℕ} {d : List ℕ} (x : Matrix) where
  pub added-valid : {answer : Bool} {s : List ℕ} → valid x ≡ true
      → Became half (insert_matrix x (list_in half d)) answer d s
      → Became half (added (list_in half d) x) answer d s
  unfolding added
  added-valid v b = rw v b

  pub added-invalid : valid x ≡ false → Holds half d
      → Became half (added (list_in half d) x) true d d
  unfolding added
  added-invalid v h = rw v (unchanged h refl)

-- ---- a list gathered part by part

-- what the elements of l before a place give is gathered in words s, which were d; the whole is left to the
-- others
pub record Gathered (half : ℕ) (f : Matrix → List Matrix) (l whole : List Matrix) (place : ℕ)
    (d s : List ℕ)
    : Type 0
  where
    pub within : place ≤ length l
    pub holds : Holds half s
    pub sized : length s ≡ length d
    pub rest : whole ≡ gather (list_in half s) (concat_map f (drop place l))

pub gathered-start : {half : ℕ} (f : Matrix → List Matrix) (l : List Matrix) {whole : List Matrix}
    {d : List ℕ} → Holds half d → whole ≡ gather (list_in half d) (concat_map f l)
    → Gathered half f l whole 0 d d
gathered-start f l h e = record { within = omega arith; holds = h; sized = refl; rest = e }

module _ {half : ℕ} {f : Matrix → List Matrix} {l whole : List Matrix} {place : ℕ} {d s : List ℕ}
    (g : Gathered half f l whole place d s)
  where
    pub gathered-end : length l ≤ place → Became half whole true d s
    unfolding concat_map gather
    gathered-end h =
        let all : whole ≡ list_in half s = g.rest ∙ rw (drop_of_length-le l {i = place} h) in
        let few : length whole ≤ most_matrices =
        omega (arith, ap length all, list_length half s, g.holds.few) in
        record { judged = sym (le-leb (length whole) most_matrices few); sized = g.sized; held = λ t. sym all }

    module _ (h : place < length l) (x : Matrix) (e : get_or l place [] ≡ x) where
      next : whole ≡ gather (gather (list_in half s) (f x)) (concat_map f (drop (suc place) l))
      unfolding concat_map
      next = g.rest ∙ rw (drop-cons l place [] h, e) (gather_append (list_in half s) (f x) _)

      pub gathered-more : {s' : List ℕ} {answer : Bool} → answer ≡ true
          → Became half (gather (list_in half s) (f x)) answer s s'
          → Gathered half f l whole (place + 1) d s'
      gathered-more {s'} {answer} took_it b =
          let took : T answer = subst T (sym took_it) tt in
          record {
            within = omega arith;
            holds = became-holds g.holds.space b took;
            sized = b.sized ∙ g.sized;
            rest = next ∙ rw (b.held took, add-one);
          }

      pub gathered-stop : {s' : List ℕ} {answer : Bool} → answer ≡ false
          → Became half (gather (list_in half s) (f x)) answer s s'
          → Became half whole false d s'
      gathered-stop {s'} {answer} did-not b =
          let part : List Matrix = gather (list_in half s) (f x) in
          let many = leb-false (length part) most_matrices (sym b.judged ∙ did-not) in
          let longer = gather-longer part (concat_map f (drop (suc place) l)) in
          record {
            judged = sym (lt-leb (length whole) most_matrices (omega (arith, ap length next)));
            sized = b.sized ∙ g.sized;
            held = λ t. absurd t;
          }

-- the parts of one matrix met with a list
abbrev pub met_alone : Matrix → Matrix → List Matrix
met_alone m x = meet m x ∷ []

pub met-each : (m : Matrix) (l : List Matrix) → map (meet m) l ≡ concat_map (met_alone m) l
unfolding concat_map
met-each m [] = refl
met-each m (x ∷ l) = ap (λ (k : List Matrix). meet m x ∷ k) (met-each m l)

-- the parts of a list met with another
abbrev pub met_with : List Matrix → Matrix → List Matrix
met_with l m = map (meet m) l

-- ---- two lists meet where some pair does

insert-some : (m : Matrix) (l : List Matrix) → holds_some (insert_matrix m l) ≡ true
unfolding insert_matrix holds_some
insert-some m [] = refl
insert-some m (x ∷ l) = by-test (same m x) (λ e. rw e)
    (λ e. by-test (precedes m x) (λ f. rw (e, f)) (λ f. rw (e, f)))

gather-some : (sofar l : List Matrix) → holds_some (gather sofar l) ≡ (holds_some sofar || at_least_one valid l)
unfolding gather at_least_one added
gather-some sofar [] = sym (or-false (holds_some sofar))
gather-some sofar (m ∷ l) = gather-some (added sofar m) l ∙ by-test (valid m)
    (λ e. rw (e, insert-some m sofar) (sym (or-true (holds_some sofar))))
    (λ e. rw e)

some-append : {A : Type 0} (test : A → Bool) (k l : List A)
    → at_least_one test (k ++ l) ≡ (at_least_one test k || at_least_one test l)
unfolding at_least_one
some-append test [] l = refl
some-append test (x ∷ k) l = by-test (test x) (λ e. rw e) (λ e. rw e (some-append test k l))

some-map : {A B : Type 0} (test : B → Bool) (f : A → B) (l : List A)
    → at_least_one test (map f l) ≡ at_least_one (λ x. test (f x)) l
unfolding at_least_one
some-map test f [] = refl
some-map test f (x ∷ l) = ap (λ (b : Bool). test (f x) || b) (some-map test f l)

pairs-some : (a b : List Matrix) → at_least_one valid (pairs_met a b) ≡ at_least_one (meets_some b) a
unfolding at_least_one concat_map
pairs-some [] b = refl
pairs-some (x ∷ a) b =
    some-append valid (map (meet x) b) (pairs_met a b)
    ∙ ap₂ ◌||◌ (some-map valid (meet x) b) (pairs-some a b)

pub meet-some : (a b : List Matrix) → at_least_one (meets_some b) a ≡ holds_some (meet_lists a b)
unfolding meet_lists holds_some
meet-some a b = sym (gather-some [] (pairs_met a b) ∙ pairs-some a b)
