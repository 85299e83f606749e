-- Laws about records laid out flat: the records of lists joined are those lists, whatever stands after them,
-- and records joined are the text that they were taken from. Lines, nodes, combinations, metastates and arcs
-- are all kept so.
use Rattle.std.specs.Prelude.{◌≡◌, Bool, T, eqb, length, take, get_or}
use Rattle.std.proofs.Math.Path.{refl, sym, ap}
use Rattle.std.proofs.Common.{ap₂, ◌∙◌, subst, le_trans, mul-le-mul_left, arith, eqb→eq, length-drop, drop-drop, length-take-le}
use mathlib.Core.List.{List, [], ◌∷◌, ◌++◌, map, append_assoc, append-nil}
use Prim.Native.Nat.{ℕ, zero, suc, ◌+◌, ◌-◌, ◌*◌, ◌/◌, ◌≤◌, ◌<◌}
use Rattle.std.proofs.Math.Nat.{mul-zero, mul-suc, mul-div-le, mul-div_cancel_left}
use Rattle.std.proofs.Math.Dec.{eqb_refl}
use Rattle.std.proofs.Math.ListN.{drop, length-append}
use Rattle.std.proofs.lemmas.List.{length-map}
use Rattle.std.proofs.Math.Seq.{take_at, drop_at, take-add}
use Rattle.definitions.specs.Lists.{every, concat_map, records, cleared, padded, IsIn}
use Rattle.definitions.specs.Arcs.{Arc, arc_size, arc_words, arc_of, arcs_in}
use Rattle.definitions.proofs.Laws.Lists.Tests.{eq→eqb}
use Rattle.definitions.proofs.Laws.Lists.Lists.{every-cons, map_at, same_at}
use Rattle.definitions.proofs.Laws.Lists.Members.{of_map, every_in, map_back}

-- ---- whole records of space

-- so many records of which there is room stand within the words
pub records-within : (size count : ℕ) {space : ℕ} → count ≤ space / size → size * count ≤ space
records-within size count {space} h = le_trans (mul-le-mul_left size h) (mul-div-le space size)

-- and the record at a place before
pub record-within : (size place : ℕ) {space : ℕ} → place < space / size → size * place + size ≤ space
record-within size place h = omega (arith, records-within size (suc place) h, mul-suc size place)

-- ---- lists joined, and records of a list

abbrev pub joined : List (List ℕ) → List ℕ
joined lists = concat_map (λ (l : List ℕ). l) lists

-- whether all have `size` elements
abbrev pub all_of : (size : ℕ) → List (List ℕ) → Bool
all_of size lists = every (λ l. eqb (length l) size) lists

pub concat_map-joined : {A : Type 0} (f : A → List ℕ) (l : List A) → concat_map f l ≡ joined (map f l)
unfolding concat_map
concat_map-joined f [] = refl
concat_map-joined f (x ∷ l) = ap (λ (r : List ℕ). f x ++ r) (concat_map-joined f l)

module _ (size : ℕ) where
  pub sized-parts : (l : List ℕ) (lists : List (List ℕ)) → T (all_of size (l ∷ lists))
      → (length l ≡ size) × T (all_of size lists)
  sized-parts l lists h =
      let (first, others) = (every-cons (λ (l : List ℕ). eqb (length l) size) l lists).0 h in
      (eqb→eq (length l) size first, others)

  pub sized-more : (l : List ℕ) (lists : List (List ℕ)) → length l ≡ size → T (all_of size lists)
      → T (all_of size (l ∷ lists))
  sized-more l lists e h =
      (every-cons (λ (l : List ℕ). eqb (length l) size) l lists).1 (rw e (eqb_refl size), h)

  pub joined_length : (lists : List (List ℕ)) → T (all_of size lists)
      → length (joined lists) ≡ size * length lists
  unfolding concat_map
  joined_length [] h = sym (mul-zero size)
  joined_length (l ∷ lists) h =
      let (first, others) = sized-parts l lists h in
      length-append l (joined lists)
      ∙ omega (arith, joined_length lists others, mul-suc size (length lists))

  -- the records of lists joined are those lists
  pub records-joined : (lists : List (List ℕ)) (rest : List ℕ) → T (all_of size lists)
      → records size (length lists) (joined lists ++ rest) ≡ lists
  unfolding records concat_map
  records-joined [] rest h = refl
  records-joined (l ∷ lists) rest h =
      let (first, others) = sized-parts l lists h in
      let after : List ℕ = joined lists ++ rest in
      let next = records-joined lists rest others in
      rw (append_assoc, take_at l after size, drop_at l after size) (ap (λ (r : List (List ℕ)). l ∷ r) next)

  -- ---- the records of a text

  pub records-length : (count : ℕ) (text : List ℕ) → length (records size count text) ≡ count
  unfolding records
  records-length zero text = refl
  records-length (suc count) text = ap suc (records-length count (drop size text))

  -- the record at a place
  pub record-at : (count : ℕ) (text : List ℕ) (i : ℕ) → i < count
      → get_or (records size count text) i [] ≡ take size (drop (size * i) text)
  unfolding records
  record-at zero text i h = absurd (omega arith)
  record-at (suc count) text zero h = rw mul-zero
  record-at (suc count) text (suc i) h =
      let more : size + size * i ≡ size * suc i = omega (arith, mul-suc size i) in
      record-at count (drop size text) i (omega arith)
      ∙ ap (take size) (drop-drop (size * i) size text ∙ rw more)

  -- what is read from each of them
  module _ {A : Type 0} (f : List ℕ → A) (count : ℕ) (text : List ℕ) where
    pub read_length : length (map f (records size count text)) ≡ count
    read_length = length-map (records size count text) f ∙ records-length count text

    pub read_at : (d : A) (i : ℕ) → i < count
        → get_or (map f (records size count text)) i d ≡ f (take size (drop (size * i) text))
    read_at d i h =
        map_at f (records size count text) [] d i (rw records-length h) ∙ ap f (record-at count text i h)

  -- a text with room for the records
  room : (count : ℕ) (text : List ℕ) → size * suc count ≤ length text
      → (size ≤ length text) × (size * count ≤ length (drop size text))
  room count text h = rw length-drop (omega (arith, mul-suc size count))

  pub records-sized : (count : ℕ) (text : List ℕ) → size * count ≤ length text
      → T (all_of size (records size count text))
  unfolding records every
  records-sized zero text h = tt
  records-sized (suc count) text h =
      let (first, others) = room count text h in
      let rest : List ℕ = drop size text in
      let next = records-sized count rest others in
      sized-more (take size text) (records size count rest) (length-take-le size text first) next

  -- joined, they are the text up to their end
  pub joined-records : (count : ℕ) (text : List ℕ) → size * count ≤ length text
      → joined (records size count text) ≡ take (size * count) text
  unfolding records concat_map
  joined-records zero text h = rw mul-zero
  joined-records (suc count) text h =
      let more : size * suc count ≡ size + size * count = omega (arith, mul-suc size count) in
      rw (more, take-add, joined-records count (drop size text) (room count text h).1)

  -- nothing beyond their end counts
  pub records-taken : (count : ℕ) (text : List ℕ) → size * count ≤ length text
      → records size count (take (size * count) text) ≡ records size count text
  records-taken count text h =
      let own : List (List ℕ) = records size count text in
      let again = records-joined own [] (records-sized count text h) in
      rw (records-length count text, append-nil (joined own), joined-records count text h) at again

-- ---- elements written as records of one size

module _ {A : Type 0} (words : A → List ℕ) (size : ℕ) (xs : List A)
    (sized : (x : A) → IsIn x xs → length (words x) ≡ size)
  where
    written-sized : T (all_of size (map words xs))
    written-sized =
        every_in (λ (l : List ℕ). eqb (length l) size) (map words xs)
        (λ l i. let (x, j, e) = of_map words l xs i in eq→eqb (length l) size (ap length e ∙ sized x j))

    pub written-length : length (concat_map words xs) ≡ size * length xs
    written-length =
        ap length (concat_map-joined words xs) ∙ joined_length size (map words xs) written-sized ∙ rw length-map

    pub written-records : (rest : List ℕ)
        → records size (length xs) (concat_map words xs ++ rest) ≡ map words xs
    written-records rest =
        rw (concat_map-joined words xs, ← length-map xs words)
        (records-joined size (map words xs) rest written-sized)

    -- where nothing stands after them
    pub written_all : 0 < size
        → records size (length (concat_map words xs) / size) (concat_map words xs) ≡ map words xs
    written_all some =
        let flat : List ℕ = concat_map words xs in
        let count : length flat / size ≡ length xs =
        ap (λ (n : ℕ). n / size) written-length ∙ mul-div_cancel_left (length xs) some in
        ap₂ (records size) count (sym (append-nil flat)) ∙ written-records []

-- whichever they are
module _ {A : Type 0} (words : A → List ℕ) (size : ℕ) (sized : (x : A) → length (words x) ≡ size) where
  pub flat-length : (xs : List A) → length (concat_map words xs) ≡ size * length xs
  flat-length xs = written-length words size xs (λ x i. sized x)

  pub flat-records : (xs : List A) (rest : List ℕ)
      → records size (length xs) (concat_map words xs ++ rest) ≡ map words xs
  flat-records xs = written-records words size xs (λ x i. sized x)

-- in a text that is its records written again, each record is
pub record-again : (again : List ℕ → List ℕ) (size : ℕ) → 0 < size
    → ((part : List ℕ) → length (again part) ≡ size) → (text : List ℕ)
    → text ≡ concat_map again (records size (length text / size) text) → (i : ℕ) → i < length text / size
    → again (take size (drop (size * i) text)) ≡ take size (drop (size * i) text)
record-again again size some sized text e i h =
    let own : List (List ℕ) = records size (length text / size) text in
    let all : own ≡ map again own =
    subst (λ t. records size (length t / size) t ≡ map again own) (sym e)
    (written_all again size own (λ part j. sized part) some) in
    subst (λ part. again part ≡ part) (record-at size (length text / size) text i h)
    (same_at again own [] i (rw records-length h) (sym all))

-- the arcs in a buffer are those that were written there
pub arc-sized : (a : Arc) → length (arc_words a) ≡ arc_size
unfolding arc_words
arc-sized a = refl

pub arcs-read : (size : ℕ) (arcs : List Arc)
    → arcs_in (length arcs) (padded size (concat_map arc_words arcs)) ≡ arcs
unfolding arcs_in padded arc_of arc_words
arcs-read size arcs =
    let rest : List ℕ = cleared (size - length (concat_map arc_words arcs)) in
    ap (map arc_of) (flat-records arc_words arc_size arc-sized arcs rest)
    ∙ map_back arc_words arc_of arcs (λ a i. refl)
