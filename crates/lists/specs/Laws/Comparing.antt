-- Laws about lists compared matrix by matrix from a column on.
use Rattle.std.specs.Prelude.{◌≡◌, refl, Bool, true, false, not, ◌&&◌, ℕ, suc, ◌+◌, ◌-◌, ◌≤◌, ◌<◌, eqb, length, get_or, take, drop}
use Rattle.std.specs.Cmp.Lexicographic.{pointwise}
use Rattle.std.proofs.Math.Path.{sym}
use Rattle.std.proofs.Common.{ap, ap₂, ◌∙◌, add-one, arith, length-drop, take_all, eq-eqb}
use mathlib.Core.List.{List, [], ◌∷◌, ◌++◌, map}
use Rattle.std.proofs.Math.ListN.{drop_of_length-le}
use Rattle.std.proofs.lemmas.List.{length-map}
use Rattle.std.proofs.Math.Seq.{drop-cons}
use Rattle.definitions.specs.Lists.{◌!◌, same}
use Rattle.definitions.specs.Matrices.{Matrix, shift}
use Rattle.definitions.specs.MatrixLists.{same_list, shift_list}
use Rattle.definitions.proofs.Laws.Lists.Lists.{map_at}
use Rattle.definitions.proofs.Laws.Lists.Tests.{by-test}
use Rattle.matrix.specs.Laws.Words.{same-places}
use Rattle.lists.specs.Held.{matrix_at, list_in}
use Rattle.lists.specs.Shifting.{SameShifted}
use Rattle.lists.specs.Laws.Held.{list_length, list_at}

-- ---- matrix by matrix

-- two lists of one length that are the same before a place
pub record AlikeLists (k l : List Matrix) (place : ℕ) : Type 0 where
  pub sized : length k ≡ length l
  pub rest : same_list k l ≡ same_list (drop place k) (drop place l)

module _ {k l : List Matrix} {place : ℕ} (a : AlikeLists k l place) where
  module _ (h : place < length k) where
    pub alike-lists-more : same (get_or k place []) (get_or l place []) ≡ true → AlikeLists k l (place + 1)
    unfolding same_list
    alike-lists-more e = record {
      sized = a.sized;
      rest =
          a.rest
          ∙ rw (drop-cons k place [] h, drop-cons l place [] (omega (arith, a.sized)), e, add-one);
    }

    pub alike-lists-stop : same (get_or k place []) (get_or l place []) ≡ false → false ≡ same_list k l
    unfolding same_list
    alike-lists-stop e =
        sym (a.rest ∙ rw (drop-cons k place [] h, drop-cons l place [] (omega (arith, a.sized)), e))

  pub alike-lists-end : length k ≤ place → true ≡ same_list k l
  unfolding same_list
  alike-lists-end h =
      sym (a.rest
      ∙ rw (drop_of_length-le k {i = place} h, drop_of_length-le l {i = place} (omega (arith, a.sized))))

lengths_differ : (k l : List Matrix) → (length k ≡ length l → ⊥) → false ≡ same_list k l
unfolding same_list
lengths_differ [] [] h = absurd (h refl)
lengths_differ [] (y ∷ l) h = refl
lengths_differ (x ∷ k) [] h = refl
lengths_differ (x ∷ k) (y ∷ l) h = by-test (same x y)
    (λ e. rw e (lengths_differ k l (λ q. h (ap suc q))))
    (λ e. rw e)

-- ---- from a column on

-- the matrices of a list from a column on
abbrev pub list_beyond : (half first : ℕ) → (words : List ℕ) → List Matrix
list_beyond half first words = map (drop first) (list_in half words)

module _ (half first : ℕ) where
  pub beyond-length : (words : List ℕ) → length (list_beyond half first words) ≡ words ! 0
  beyond-length words = length-map (list_in half words) (drop first) ∙ list_length half words

  pub beyond-start : (a b : List ℕ) → a ! 0 ≡ b ! 0
      → AlikeLists (list_beyond half first a) (list_beyond half first b) 0
  beyond-start a b e = record { sized = beyond-length a ∙ e ∙ sym (beyond-length b); rest = refl }

  pub beyond-differ : (a b : List ℕ) → (a ! 0 ≡ b ! 0 → ⊥)
      → false ≡ same_list (list_beyond half first a) (list_beyond half first b)
  beyond-differ a b n =
      lengths_differ (list_beyond half first a) (list_beyond half first b)
      (λ e. n (sym (beyond-length a) ∙ e ∙ beyond-length b))

turned : (p : Bool) {differ : Bool} → differ ≡ not p → p ≡ not differ
turned true q = sym (ap not q)
turned false q = sym (ap not q)

-- two matrices that stand at a place, from a column on
module _ (half first place : ℕ) where
  beyond-at : (words : List ℕ) → place < words ! 0 → {x : Matrix} → x ≡ matrix_at half words place
      → take (length x - first) (drop first x) ≡ get_or (list_beyond half first words) place []
  beyond-at words h {x} e =
      take_all (length x - first) (drop first x) (omega (arith, length-drop first x))
      ∙ sym (map_at (drop first) (list_in half words) [] [] place (omega (arith, list_length half words))
      ∙ ap (drop first) (list_at half words place h ∙ sym e))

  pub beyond-test : (a b : List ℕ) → place < a ! 0 → place < b ! 0 → {x y : Matrix} → x ≡ matrix_at half a place
      → y ≡ matrix_at half b place → {differ : Bool}
      → differ ≡ not (pointwise eqb (take (length x - first) (drop first x)) (take (length y - first) (drop first y)))
      → same (get_or (list_beyond half first a) place []) (get_or (list_beyond half first b) place []) ≡ not differ
  beyond-test a b h k e f q =
      sym (same-places _ _ ∙ ap₂ same (beyond-at a h e) (beyond-at b k f)) ∙ turned _ q

-- ---- from the first column on, and once shifted

pub drop-none : (l : List Matrix) → map (drop 0) l ≡ l
drop-none [] = refl
drop-none (x ∷ l) = ap (λ (k : List Matrix). x ∷ k) (drop-none l)

same-snoc : (k l : List ℕ) (x : ℕ) → same (k ++ (x ∷ [])) (l ++ (x ∷ [])) ≡ same k l
unfolding same
same-snoc [] [] x = rw (eq-eqb x x refl)
same-snoc [] (y ∷ []) x = by-test (eqb x y) (λ e. rw e) (λ e. rw e)
same-snoc [] (y ∷ z ∷ l) x = by-test (eqb x y) (λ e. rw e) (λ e. rw e)
same-snoc (y ∷ []) [] x = by-test (eqb y x) (λ e. rw e) (λ e. rw e)
same-snoc (y ∷ z ∷ k) [] x = by-test (eqb y x) (λ e. rw e) (λ e. rw e)
same-snoc (y ∷ k) (z ∷ l) x = ap (λ (b : Bool). eqb y z && b) (same-snoc k l x)

pub shifted-same : (a b : List Matrix) {answer : Bool} → answer ≡ same_list (map (drop 1) a) (map (drop 1) b)
    → SameShifted a b answer
unfolding same_list shift_list shift
shifted-same a b e phones = e ∙ go a b
  where
    go : (a b : List Matrix) → same_list (map (drop 1) a) (map (drop 1) b)
        ≡ same_list (map (shift phones) a) (map (shift phones) b)
    go [] [] = refl
    go [] (y ∷ b) = refl
    go (x ∷ a) [] = refl
    go (x ∷ a) (y ∷ b) = ap₂ ◌&&◌ (sym (same-snoc (drop 1 x) (drop 1 y) _)) (go a b)
