-- Laws about combinations added to lent space: none, more after some that had room, and more after some that
-- had not. The loops that add them use these.
use Rattle.std.specs.Prelude.{Result, Ok, Err, ◌≡◌, refl, ◌⊎◌, ℕ, ◌+◌, ◌*◌, ◌≤◌, ◌<◌, leb, take}
use Rattle.std.proofs.Common.{sym, ◌∙◌, ⊎_elim, mul-zero, mul-one, mul-add, arith, length-take-le, leb-true, leb-false}
use Rattle.std.proofs.Math.Path.{ap}
use Rattle.std.proofs.Math.Logic.{inl, inr}
use mathlib.Core.List.{List, [], ◌∷◌, ◌++◌, append_assoc, append-nil}
use Rattle.std.proofs.Math.Nat.{sub-zero}
use Rattle.std.proofs.Math.ListN.{length, length-append}
use Rattle.definitions.specs.declared.Fault.{Fault}
use Rattle.definitions.specs.declared.Fault.TheVariants.{Choices}
use Rattle.definitions.specs.declared.Refusal.{Refusal}
use Rattle.definitions.specs.Faults.{Outcome, answered, refused, refuse, judge}
use Rattle.definitions.specs.Lists.{concat_map, cleared, padded}
use Rattle.definitions.specs.Matrices.{Matrix, matrix_size, matrix_record, valid, meet}
use Rattle.definitions.specs.Combinations.{Leaf, Combination, choose, combination_size, combination_words}
use Rattle.definitions.specs.Combinations.{combination_room}
use Rattle.definitions.proofs.Laws.Text.Judging.{refused-not-answered}
use Rattle.definitions.proofs.Laws.Lists.Tests.{by-test}
use Rattle.definitions.proofs.Laws.Lists.Lists.{concat_map-append, padded-length, padded-take}
use Rattle.definitions.proofs.Laws.Lists.Records.{records-within}
use Rattle.choices.specs.Space.{Holding, added_in, adding_of, Added}

-- combinations whose records have the words that a record of the book has
pub record Sized (half : ℕ) (new : List Combination) : Type 0 where
  pub words : length (concat_map (combination_words half) new) ≡ combination_size half * length new

pub sized-none : {half : ℕ} → Sized half []
unfolding concat_map
sized-none {half} = record { words = sym (mul-zero (combination_size half)) }

pub sized-append : {half : ℕ} {k l : List Combination} → Sized half k → Sized half l → Sized half (k ++ l)
sized-append {half} {k} {l} a b = record {
  words =
      ap length (concat_map-append (combination_words half) k l)
      ∙ simp length-append
      (omega (arith, a.words, b.words, mul-add (combination_size half) (length k) (length l)));
}

pub sized-each : {A : Type 0} {half : ℕ} (f : A → List Combination) (l : List A) → ((x : A) → Sized half (f x))
    → Sized half (concat_map f l)
unfolding concat_map
sized-each f [] each = sized-none
sized-each f (x ∷ l) each = sized-append (each x) (sized-each f l each)

-- so have those that are chosen from at most three trees, with matrices that have room in a record
combination-length : (half : ℕ) (c : Combination) → length c.leaves ≤ 3 → length c.carried ≤ matrix_size half
    → length (combination_words half c) ≡ combination_size half
unfolding combination_words matrix_record
combination-length half c h w =
    let nodes = padded-length 3 c.leaves h in
    let columns = padded-length (matrix_size half) c.carried w in
    simp length-append (omega (arith, nodes, columns))

sized-one : (half : ℕ) (c : Combination) → length c.leaves ≤ 3 → length c.carried ≤ matrix_size half
    → Sized half (c ∷ [])
unfolding concat_map
sized-one half c h w =
    record { words = rw append-nil (combination-length half c h w ∙ sym (mul-one (combination_size half))) }

meet-narrow : (a b : Matrix) → length (meet a b) ≤ length a
unfolding meet
meet-narrow [] [] = omega arith
meet-narrow [] (y ∷ b) = omega arith
meet-narrow (x ∷ a) [] = omega arith
meet-narrow (x ∷ a) (y ∷ b) = omega (arith, meet-narrow a b)

pub choose-sized : {half : ℕ} (phone : ℕ) (leaves : List ℕ) (m : Matrix) (trees : List (List Leaf))
    → length leaves + length trees ≤ 3 → length m ≤ matrix_size half → Sized half (choose phone leaves m trees)
unfolding choose
choose-sized {half} phone leaves m [] h w = by-test (valid m)
    (λ t. rw t (sized-one half (record { phone = phone; leaves = leaves; carried = m }) (omega arith) w))
    (λ t. rw t sized-none)
choose-sized phone leaves m (tree ∷ trees) h w = sized-each _ tree λ l.
    choose-sized phone (leaves ++ (l.node ∷ [])) (meet m l.carried) trees
    (rw length-append (omega arith))
    (omega (arith, meet-narrow m l.carried))

-- ---- outcomes

-- records that have room lie within the words
pub room-words : (half count space : ℕ) → count ≤ combination_room half space → combination_size half * count ≤ space
unfolding combination_room
room-words half count space h = records-within (combination_size half) count (omega (arith, h))

-- an answer stands for its outcome
adding-count : (count total : ℕ) (outcome : Outcome (List Combination))
    → Ok total ≡ adding_of count outcome
    → (new : List Combination) × (outcome ≡ answered new) × (total ≡ count + length new)
unfolding adding_of
adding-count count total (answered new) e = (new, refl, cc)
adding-count count total (refused r) e = let z : ◌≡◌ {A = ℕ} 0 1 = cc in absurd (omega arith)

adding-stop : (count : ℕ) (fault : Fault) (outcome : Outcome (List Combination))
    → Err fault ≡ adding_of count outcome → (r : Refusal) × (outcome ≡ refused r) × (r.fault ≡ fault)
unfolding adding_of
adding-stop count fault (refused r) e = (r, refl, cc)
adding-stop count fault (answered new) e = let z : ◌≡◌ {A = ℕ} 0 1 = cc in absurd (omega arith)

module _ (half space count : ℕ) (new : List Combination) where
  -- there is room for all, or 30
  abbrev pub Fits : Type 0
  Fits = (count + length new ≤ combination_room half space) × (added_in half space count new ≡ answered new)

  abbrev pub Exceeds : Type 0
  Exceeds = (combination_room half space < count + length new) × (added_in half space count new ≡ refuse Choices 0)

  judged : Fits ⊎ Exceeds
  unfolding added_in judge
  judged = by-test (leb (count + length new) (combination_room half space))
      (λ t. inl (leb-true _ _ t, rw t))
      (λ t. inr (leb-false _ _ t, rw t))

  pub fits : count + length new ≤ combination_room half space → Fits
  fits h = ⊎_elim (λ f. f) (λ o. absurd (omega (arith, o.0))) judged

  pub exceeds : combination_room half space < count + length new → Exceeds
  exceeds h = ⊎_elim (λ f. absurd (omega (arith, f.0))) (λ o. o) judged

  pub answered-fits : {found : List Combination} → added_in half space count new ≡ answered found
      → Fits × (found ≡ new)
  answered-fits {found} e = ⊎_elim
      (λ f. (f, let same = f.1 in cc))
      (λ o. absurd (refused-not-answered _ Choices 0 found o.1 e)) judged

  pub refused-exceeds : {r : Refusal} → added_in half space count new ≡ refused r → Exceeds × (r.fault ≡ Choices)
  refused-exceeds {r} e = ⊎_elim
      (λ f. absurd (refused-not-answered _ r.fault r.line new e f.1))
      (λ o. (o, let same = o.1 in cc)) judged

-- ---- combinations added

module _ {half : ℕ} {before after : List ℕ} {count : ℕ} (new : List Combination) where
  pub grown-counted : {total : ℕ} → total ≡ count + length new → total ≤ combination_room half (length before)
      → after ≡ padded (length before)
      (take (combination_size half * count) before ++ concat_map (combination_words half) new)
      → length after ≡ length before
      → Added half before count new (Ok total) after
  unfolding adding_of
  grown-counted {total} all fit words sized =
      let is = (fits half (length before) count new (omega arith)).1 in record {
        answers = rw (is, all);
        holds = λ found e.
            words
            ∙ ap (λ (l : List Combination). padded (length before)
            (take (combination_size half * count) before ++ concat_map (combination_words half) l))
            (sym (answered-fits half (length before) count new e).1);
        sized = sized;
      }

  pub grown-stopped : combination_room half (length before) < count + length new → length after ≡ length before
      → Added half before count new (Err Choices) after
  unfolding adding_of
  grown-stopped over sized =
      let is = (exceeds half (length before) count new over).1 in record {
        answers = rw is;
        holds = λ found e. absurd (refused-not-answered _ Choices 0 found is e);
        sized = sized;
      }

-- lent space without a record
pub holding-none : (half : ℕ) (before : List ℕ) → before ≡ cleared (length before) → Holding half before 0
unfolding padded
holding-none half before e = record { roomy = omega arith; rest = rw (mul-zero (combination_size half), sub-zero) e }

-- none
pub grown-none : {half : ℕ} {space : List ℕ} {count : ℕ} → Holding half space count
    → Added half space count [] (Ok count) space
unfolding concat_map
grown-none {half} {space} {count} h =
    grown-counted [] (omega arith) h.roomy
    (h.rest ∙ ap (padded (length space)) (sym (append-nil (take (combination_size half * count) space)))) refl

module _ {half : ℕ} {before after : List ℕ} {count : ℕ} {answer : Result ℕ Fault} (h : Holding half before count)
    (new : List Combination) (g : Added half before count new answer after) where
  -- that had no room, so more have none
  module _ {fault : Fault} (a : answer ≡ Err fault) where
    stopped : Exceeds half (length before) count new × (fault ≡ Choices)
    stopped =
        let (r, is, own) = adding-stop count fault (added_in half (length before) count new) (sym a ∙ g.answers) in
        let (over, choices) = refused-exceeds half (length before) count new is in
        (over, sym own ∙ choices)

    pub grown-refused : added_in half (length before) count new ≡ refuse fault 0
    grown-refused = rw stopped.1 stopped.0.1

    pub grown-over : (more : List Combination)
        → Added half before count (new ++ more) (Err fault) after
    grown-over more =
        let longer : combination_room half (length before) < count + length (new ++ more) =
        rw length-append (omega (arith, stopped.0.0)) in
        rw stopped.1 (grown-stopped (new ++ more) longer g.sized)

  -- that had room
  module _ {total : ℕ} (a : answer ≡ Ok total) where
    counted : (total ≡ count + length new) × (total ≤ combination_room half (length before))
        × (added_in half (length before) count new ≡ answered new)
    counted =
        let outcome = added_in half (length before) count new in
        let (found, is, all) = adding-count count total outcome (sym a ∙ g.answers) in
        let (fit, same) = answered-fits half (length before) count new is in
        let sum : total ≡ count + length new = all ∙ ap (λ (l : List Combination). count + length l) same in
        (sum, omega (arith, sum, fit.0), fit.1)

    pub grown-all : total ≡ count + length new
    grown-all = counted.0

    pub grown-within : total ≤ combination_room half (length before)
    grown-within = counted.1

    pub grown-answered : added_in half (length before) count new ≡ answered new
    grown-answered = counted.2

    -- the words of their records
    module _ (s : Sized half new) where
      abbrev words : List ℕ
      words = take (combination_size half * count) before ++ concat_map (combination_words half) new

      held : after ≡ padded (length before) words
      held = g.holds new grown-answered

      ends : combination_size half * total ≡ length words
      ends =
          let first = length-take-le (combination_size half * count) before (room-words half count _ h.roomy) in
          let sum : combination_size half * total ≡ combination_size half * count + combination_size half * length new =
          ap (λ (k : ℕ). combination_size half * k) grown-all ∙ mul-add (combination_size half) count (length new) in
          simp length-append (omega (arith, first, s.words, sum))

      kept : take (combination_size half * total) after ≡ words
      kept = ap (take (combination_size half * total)) held ∙ padded-take _ _ words ends

      pub grown-holding : Holding half after total
      grown-holding = record {
        roomy = rw g.sized grown-within;
        rest = held ∙ rw (g.sized, kept);
      }

      -- and more after them
      module _ {last : List ℕ} {result : Result ℕ Fault} (more : List Combination)
          (next : Added half after total more result last) where
        then-stop : Exceeds half (length after) total more
            → Added half before count (new ++ more) result last
        unfolding adding_of
        then-stop over =
            let stop : result ≡ Err Choices = next.answers ∙ rw over.1 in
            let longer : combination_room half (length before) < count + length (new ++ more) =
            rw (length-append, ← g.sized) (omega (arith, over.0, grown-all)) in
            rw stop (grown-stopped (new ++ more) longer (next.sized ∙ g.sized))

        then-count : Fits half (length after) total more
            → Added half before count (new ++ more) result last
        unfolding adding_of
        then-count fit =
            let sum : total + length more ≡ count + length (new ++ more) =
            rw length-append (omega (arith, grown-all)) in
            let stop : result ≡ Ok (total + length more) = next.answers ∙ rw fit.1 in
            rw stop (grown-counted (new ++ more) sum (rw (← g.sized) fit.0)
            (next.holds more fit.1
            ∙ rw (g.sized, kept, concat_map-append (combination_words half) new more, ← append_assoc))
            (next.sized ∙ g.sized))

        pub grown-then : Added half before count (new ++ more) result last
        grown-then = ⊎_elim then-count then-stop (judged half (length after) total more)
