-- The start metastates are the followers of one matrix: silence alone in its left columns and its centre, all
-- phones in its right columns. A combination of silence meets it in its own matrix with the start's cut; any
-- other combination meets it in an empty centre. So the search for followers finds the starts too.
use Rattle.std.specs.Prelude.{◌≡◌, List, [], ◌∷◌, Bool, true, false, ◌&&◌, ℕ, suc, ◌*◌, ◌≤◌, ◌<◌, ltb, eqb, length}
use Rattle.std.proofs.Math.Path.{refl}
use Rattle.std.proofs.Common.{sym, ap, ◌∙◌, subst, arith, ext_get_or, ltb-true, ltb-false, eqb-true}
use Rattle.std.proofs.Math.Bool.{and-false}
use Rattle.std.specs.Int.Bits.{bit_and}
use Rattle.std.proofs.lemmas.Nat.{and_comm}
use Rattle.std.proofs.Math.Dec.{T, eqb→eq}
use Rattle.std.proofs.lemmas.Bool.{eqb-false}
use Rattle.definitions.specs.declared.Header.{Header}
use Rattle.definitions.specs.Lists.{if◌then◌else◌, ◌!◌}
use Rattle.definitions.specs.PhoneSets.{has, alone, all_phones}
use Rattle.definitions.specs.Matrices.{Matrix, valid, meet, start_cut}
use Rattle.definitions.specs.Combinations.{Combination}
use Rattle.definitions.specs.Metastates.{Metastate, starts_from, followers_from, numbered}
use Rattle.definitions.proofs.Laws.Lists.Tests.{T_and, by-test}
use Rattle.definitions.proofs.Laws.Matrices.PhoneSets.{has-and, has-alone, same-members, within_all}
use Rattle.definitions.proofs.Laws.Matrices.Matrices.{meet-column, meet-length, start-column, start-other}
use Rattle.definitions.proofs.Laws.Matrices.Matrices.{start-length, valid-columns}
use Rattle.matrix.specs.Shapes.{columns_around}
use Rattle.matrix.specs.Laws.Shapes.{around-length, around-left, around-centre, around-right}
use Rattle.index.specs.Combinations.{IsCombination}

-- the matrix that the starts follow
abbrev pub before_start : Header → Matrix
before_start header = columns_around header.half 1 1 (all_phones header.phones)

-- silence and a set that holds nothing else meet in that set
silence-only : (s : ℕ) → ((p : ℕ) → T (has p s) → p ≡ 1) → bit_and 1 s ≡ s
unfolding has
silence-only s only = same-members (bit_and 1 s) s λ p. has-and p 1 s ∙ go p (has p s) (only p)
  where
    go : (p : ℕ) (b : Bool) → (T b → p ≡ 1) → (has p 1 && b) ≡ b
    go p true h = rw (h tt)
    go p false h = and-false (has p 1)

module _ (header : Header) (c : Combination) (choice : IsCombination header c) where
  abbrev half : ℕ
  half = header.half

  abbrev all : ℕ
  all = all_phones header.phones

  abbrev met : Matrix
  met = meet (before_start header) c.carried

  widths : length (before_start header) ≡ length c.carried
  widths = around-length half 1 1 all ∙ omega (arith, choice.width)

  met-width : length met ≡ length c.carried
  met-width = meet-length (before_start header) c.carried widths ∙ widths

  met-column : (column : ℕ) → met ! column ≡ bit_and (before_start header ! column) (c.carried ! column)
  met-column = meet-column (before_start header) c.carried

  -- ---- a combination of silence

  abbrev Cut : (column : ℕ) → Type 0
  Cut column = met ! column ≡ start_cut half c.carried ! column

  left_cut : (column : ℕ) → column < half → Cut column
  unfolding alone
  left_cut column h =
      met-column column
      ∙ rw (← around-left half 1 1 all column h, start-column half c.carried column h)
      (and_comm 1 (c.carried ! column))

  centre-cut : c.phone ≡ 1 → (column : ℕ) → column ≡ half → Cut column
  centre-cut e column h =
      let only : ((p : ℕ) → T (has p (c.carried ! column)) → p ≡ 1) =
      λ p t. choice.centre p (subst (λ (i : ℕ). T (has p (c.carried ! i))) h t) ∙ e in
      met-column column
      ∙ rw (← around-centre half 1 1 all column h, start-other half c.carried column (omega arith))
      (silence-only (c.carried ! column) only)

  right-cut : (column : ℕ) → half < column → column ≤ 2 * half → Cut column
  right-cut column h k =
      met-column column
      ∙ rw (← around-right half 1 1 all column h k, start-other half c.carried column (omega arith))
      (and_comm all (c.carried ! column)
      ∙ within_all header.phones (c.carried ! column) (choice.below column))

  silence-met : c.phone ≡ 1 → met ≡ start_cut half c.carried
  silence-met e =
      ext_get_or 0 met (start_cut half c.carried) (met-width ∙ sym (start-length half c.carried))
      (λ column h.
      by-test (ltb column half) (λ t. left_cut column (ltb-true column half t)) (λ t.
      by-test (eqb column half) (λ u. centre-cut e column (eqb-true column half u)) (λ u.
      right-cut column (omega (arith, ltb-false column half t, eqb-false column half u))
      (omega (arith, met-width, choice.width)))))

  -- ---- any other

  other-met : (c.phone ≡ 1 → ⊥) → valid met ≡ false
  unfolding alone
  other-met other = by-test (valid met) (λ t. absurd (never (rw t tt))) (λ t. t)
    where
      never : T (valid met) → ⊥
      never v =
          let (p, t) = (valid-columns met).0 v half (omega (arith, met-width, choice.width)) in
          let both : T (has p 1 && has p (c.carried ! half)) =
          rw (met-column half, ← around-centre half 1 1 all half refl, has-and) at t in
          let (one, own) = (T_and (has p 1) (has p (c.carried ! half))).0 both in
          other (sym (choice.centre p own) ∙ eqb→eq p 1 (subst T (has-alone p 1 (omega arith)) one))

  -- the one metastate of a combination, or none
  start-follows : (number : ℕ) (rest : List Metastate)
      → (if eqb c.phone 1 && valid (start_cut half c.carried)
      then record { number = number; carried = start_cut half c.carried } ∷ rest else rest)
      ≡ (if valid met then record { number = number; carried = met } ∷ rest else rest)
  start-follows number rest =
      by-test (eqb c.phone 1)
      (λ t. rw (t, silence-met (eqb-true c.phone 1 t)))
      (λ t. rw (t, other-met (eqb-false c.phone 1 t)))

-- the starts among combinations of the book, the first of which has this number
starts-follow-from : (header : Header) (number : ℕ) (cs : List Combination)
    → ((i : ℕ) → i < length cs → IsCombination header (numbered cs i))
    → starts_from header.half number cs ≡ followers_from (before_start header) number cs
unfolding starts_from followers_from
starts-follow-from header number [] each = refl
starts-follow-from header number (c ∷ cs) each =
    let next = starts-follow-from header (suc number) cs (λ i h. each (suc i) (omega arith)) in
    start-follows header c (each 0 (omega arith)) number (starts_from header.half (suc number) cs)
    ∙ ap (λ rest. if valid (meet (before_start header) c.carried)
    then record { number = number; carried = meet (before_start header) c.carried } ∷ rest else rest) next

pub starts-follow : (header : Header) (cs : List Combination)
    → ((number : ℕ) → number < length cs → IsCombination header (numbered cs number))
    → starts_from header.half 0 cs
    ≡ followers_from (columns_around header.half 1 1 (all_phones header.phones)) 0 cs
starts-follow header = starts-follow-from header 0
