-- Laws about the combinations that begin with a choice: a leaf that does not meet it validly gives none, so the
-- search may pass it over; the others give theirs one after the other. The loop over a tree's leaves, and the
-- choice that has one leaf more, use them.
use Rattle.std.specs.Prelude.{Result, Ok, Err, ◌≡◌, refl, true, false, not, T, eqb, take, get_or}
use Rattle.std.proofs.Common.{sym, ◌∙◌, subst, add-one, arith, take-append-drop, take-suc, take-add, take_all, get_or-take, get_or-drop, take-suc-set, eqb-true}
use Rattle.std.proofs.Math.Path.{ap, ap₂}
use mathlib.Core.List.{List, [], ◌∷◌, ◌++◌, append-nil}
use Rattle.std.proofs.Math.Bool.{and-false}
use Prim.Native.Nat.{ℕ, zero, suc, ◌+◌, ◌-◌, ◌≤◌, ◌<◌}
use Rattle.std.proofs.Math.Nat.{suc_inj}
use Rattle.std.specs.Int.Bits.{bit_and}
use Rattle.std.proofs.Math.ListN.{length, drop, length-append, length-take}
use Rattle.std.proofs.lemmas.List.{take-append-le}
use Rattle.std.proofs.Math.Seq.{length-take-le, set_split, drop-append-add, append_snoc}
use Rattle.definitions.specs.Lists.{every, concat_map, cleared, padded}
use Rattle.definitions.specs.Matrices.{Matrix, matrix_size, valid, meet}
use Rattle.definitions.specs.declared.Fault.{Fault}
use Rattle.definitions.specs.Combinations.{Leaf, Combination, choose}
use Rattle.definitions.proofs.Laws.Lists.Tests.{by-test, if-true}
use Rattle.definitions.proofs.Laws.Lists.Lists.{concat_map-append, concat_map-snoc, drop-cleared}
use Rattle.definitions.proofs.Laws.Lists.Members.{in-at}
use Rattle.definitions.proofs.Laws.Matrices.Matrices.{meet-length}
use Rattle.matrix.specs.Laws.Widths.{width-taken, met-matrix, met-width}
use Rattle.leafsets.specs.Leaves.{leaves_in}
use Rattle.choices.specs.declared.Choice.{Choice}
use Rattle.choices.specs.Choices.{Chosen, Choosable, FirstFit, leaves_taken, matrix_met, combination_of}
use Rattle.choices.specs.Choices.{trees_in, chosen_from, no_leaf, fits_at, WithLeaf}
use Rattle.choices.specs.Space.{Holding, Added}
use Rattle.choices.specs.Laws.Grown.{Sized, choose-sized, grown-none, grown-over, grown-holding}
use Rattle.choices.specs.Laws.Grown.{grown-then}
use Rattle.choices.specs.Laws.LeafLists.{leaf-width, Wide, list-wide}

-- ---- a matrix that is not valid gives none

-- an empty column stays empty
meet-empty : (a b : Matrix) → length a ≡ length b → valid a ≡ false → valid (meet a b) ≡ false
unfolding valid meet every
meet-empty [] b e h = absurd (subst T h tt)
meet-empty (x ∷ a) [] e h = absurd (omega arith)
meet-empty (x ∷ a) (y ∷ b) e h = by-test (eqb x 0)
    (λ t. rw (eqb-true x 0 t))
    (λ t. rw (meet-empty a b (suc_inj e) (rw t at h)) (and-false (not (eqb (bit_and x y) 0))))

-- trees of leaves whose matrices have one width
unfoldable AllWide : (width : ℕ) → List (List Leaf) → Type 0
AllWide width [] = T true
AllWide width (tree ∷ trees) = Wide width tree × AllWide width trees

take-wide : (width count : ℕ) (trees : List (List Leaf)) → AllWide width trees → AllWide width (take count trees)
unfolding AllWide
take-wide width zero trees h = tt
take-wide width (suc count) [] h = tt
take-wide width (suc count) (tree ∷ trees) h = (h.0, take-wide width count trees h.1)

none-given : (f : Leaf → List Combination) (tree : List Leaf)
    → ((i : ℕ) → i < length tree → f (get_or tree i no_leaf) ≡ []) → concat_map f tree ≡ []
unfolding concat_map
none-given f [] h = refl
none-given f (l ∷ tree) h = rw (h 0 (omega arith)) (none-given f tree (λ i k. h (suc i) (omega arith)))

choose-none : (width phone : ℕ) (leaves : List ℕ) (m : Matrix) (trees : List (List Leaf)) → AllWide width trees
    → length m ≡ width → valid m ≡ false → choose phone leaves m trees ≡ []
unfolding choose AllWide
choose-none width phone leaves m [] w e h = rw h
choose-none width phone leaves m (tree ∷ trees) w e h = none-given _ tree λ i k.
    let n : Matrix = (get_or tree i no_leaf).carried in
    let same : length m ≡ length n = e ∙ sym (w.0 _ (in-at tree i no_leaf k)) in
    choose-none width phone _ (meet m n) trees w.1 (meet-length m n same ∙ e) (meet-empty m n same h)

-- ---- leaves that do not fit are passed over

module _ (m : Matrix) (leaves : List Leaf) (f : Leaf → List Combination)
    (none : (i : ℕ) → i < length leaves → fits_at m leaves i ≡ false
    → f (get_or leaves i no_leaf) ≡ []) where
  passed_over : {from place : ℕ} → FirstFit m leaves from place
      → concat_map f (take place leaves) ≡ concat_map f (take from leaves)
  passed_over {from} {place} fit =
      let between : List Leaf = take (place - from) (drop from leaves) in
      let whole : place ≡ from + (place - from) = omega (arith, fit.none.after) in
      let nothing : concat_map f between ≡ [] =
      none-given f between λ i k.
      let short : i < place - from = omega (arith, rw length-take at k) in
      let leaf : get_or between i no_leaf ≡ get_or leaves (from + i) no_leaf =
      get_or-take (place - from) (drop from leaves) i no_leaf short ∙ get_or-drop from leaves i no_leaf in
      ap f leaf
      ∙ none (from + i) (omega (arith, fit.none.within))
      (fit.none.passed (from + i) (omega arith) (omega arith)) in
      ap (λ (k : ℕ). concat_map f (take k leaves)) whole
      ∙ ap (concat_map f) (take-add from (place - from) leaves)
      ∙ concat_map-append f (take from leaves) between
      ∙ rw (nothing, append-nil)

-- one leaf's combinations more
taken-one : (f : Leaf → List Combination) (leaves : List Leaf) (place : ℕ) → place < length leaves
    → concat_map f (take (place + 1) leaves) ≡ concat_map f (take place leaves) ++ f (get_or leaves place no_leaf)
taken-one f leaves place h =
    rw (add-one, take-suc leaves place no_leaf h) (concat_map-snoc f (take place leaves) _)

-- ---- the choice with one leaf more

module _ {width : ℕ} {choice : Choice} (chosen : Chosen width choice) (three : length choice.leaves ≡ 3)
    (more : choice.taken < 3) (words : List ℕ) {place : ℕ} (inside : place < length (leaves_in width words))
    {next : Choice} (w : WithLeaf width choice words place next) where
  abbrev leaf : Leaf
  leaf = get_or (leaves_in width words) place no_leaf

  next-leaves : leaves_taken next ≡ leaves_taken choice ++ (leaf.node ∷ [])
  next-leaves =
      rw (w.1, w.2, add-one)
      (take-suc-set choice.leaves choice.taken leaf.node (omega arith))

  own-width : length leaf.carried ≡ width
  own-width = leaf-width width words place inside chosen.narrow

  next-matrix : matrix_met width next ≡ meet (matrix_met width choice) leaf.carried
  next-matrix = met-matrix chosen.narrow chosen.matrix leaf.carried own-width w.3

  -- the leaves after it are still 0
  next-padded : next.leaves ≡ padded 3 (leaves_taken next)
  unfolding padded
  next-padded =
      let node : ℕ = leaf.node in
      let used : List ℕ = leaves_taken choice in
      let many : length used ≡ choice.taken = length-take-le choice.taken choice.leaves (omega arith) in
      let place_is : suc choice.taken ≡ length used + 1 = omega (arith, many) in
      let left : 3 - length used - 1 ≡ 3 - length (used ++ (node ∷ [])) = rw length-append (omega arith) in
      let zeros : drop (suc choice.taken) choice.leaves ≡ cleared (3 - length (used ++ (node ∷ []))) =
      ap₂ drop place_is chosen.leaves ∙ drop-append-add used (cleared (3 - length used)) 1
      ∙ drop-cleared 1 (3 - length used) ∙ ap cleared left in
      w.2 ∙ set_split choice.leaves choice.taken node (omega arith)
      ∙ rw (zeros, next-leaves) (sym (append_snoc used node _))

  pub next-chosen : fits_at (matrix_met width choice) (leaves_in width words) place ≡ true → Chosen width next
  next-chosen fits = record {
    narrow = chosen.narrow;
    leaves = next-padded;
    matrix = met-width chosen.narrow chosen.matrix leaf.carried own-width w.3;
    holds = rw next-matrix (subst T (sym fits) tt);
  }

-- no tree is left: the choice is a combination
pub choosing-last : {width trees : ℕ} (first second third : List ℕ) {choice : Choice} → Chosen width choice
    → trees ≡ 0 → chosen_from width trees first second third choice ≡ combination_of width choice ∷ []
unfolding choose
choosing-last {width} first second third {choice} chosen e =
    rw e (if-true (valid (matrix_met width choice)) _ _ chosen.holds)

-- ---- the loop over the leaves of the first tree

-- what a choice begins: at least one tree is left
pub record Beginning (half width trees : ℕ) (first second third : List ℕ) (choice : Choice) : Type 0 where
  pub asked : Choosable width trees first second third choice
  pub three : length choice.leaves ≡ 3
  pub held : width ≤ matrix_size half
  pub some : trees ≡ 0 → ⊥

-- the trees that are left after the first
trees-next : (trees : ℕ) (first second third : List Leaf) → (trees ≡ 0 → ⊥) → trees ≤ 3
    → take trees (first ∷ second ∷ third ∷ []) ≡ first ∷ take (trees - 1) (second ∷ third ∷ third ∷ [])
trees-next zero first second third some few = absurd (some refl)
trees-next (suc n) first second third some few =
    let fewer : suc n - 1 ≡ n = omega arith in
    let two : List (List Leaf) = second ∷ third ∷ [] in
    rw fewer
    (ap (λ (l : List (List Leaf)). first ∷ l) (sym (take-append-le n two (third ∷ []) (omega arith))))

-- the combinations that a leaf of the first tree gives
abbrev pub leaf_gives : (width trees : ℕ) → (second third : List ℕ) → Choice → Leaf → List Combination
leaf_gives width trees second third choice l =
    choose choice.phone (leaves_taken choice ++ (l.node ∷ [])) (meet (matrix_met width choice) l.carried)
    (trees_in width (trees - 1) second third third)

module _ {half width trees : ℕ} {first second third : List ℕ} {choice : Choice}
    (b : Beginning half width trees first second third choice) where
  abbrev gives : Leaf → List Combination
  gives = leaf_gives width trees second third choice

  abbrev rest : List (List Leaf)
  rest = trees_in width (trees - 1) second third third

  abbrev tree : List Leaf
  tree = leaves_in width first

  taken-length : length (leaves_taken choice) ≡ choice.taken
  taken-length = length-take-le choice.taken choice.leaves (omega (arith, b.three, b.asked.few))

  met-length : length (matrix_met width choice) ≡ width
  met-length = width-taken b.asked.chosen.narrow b.asked.chosen.matrix

  rest-wide : AllWide width rest
  unfolding AllWide
  rest-wide =
      let second-wide = list-wide width second b.asked.chosen.narrow in
      let third-wide = list-wide width third b.asked.chosen.narrow in
      take-wide width (trees - 1) _ (second-wide, (third-wide, (third-wide, tt)))

  -- none for a leaf that does not fit
  gives_none : (i : ℕ) → i < length tree → fits_at (matrix_met width choice) tree i ≡ false
      → gives (get_or tree i no_leaf) ≡ []
  gives_none i h e =
      let m : Matrix = matrix_met width choice in
      let n : Matrix = (get_or tree i no_leaf).carried in
      let own : length n ≡ width = leaf-width width first i h b.asked.chosen.narrow in
      let same : length m ≡ length n = met-length ∙ sym own in
      choose-none width choice.phone _ (meet m n) rest rest-wide (meet-length m n same ∙ met-length) e

  gives-sized : (leaves : List Leaf) → Sized half (concat_map gives leaves)
  unfolding choose
  gives-sized leaves =
      let last : List Leaf = leaves_in width third in
      let trees-left = length-take (trees - 1) (leaves_in width second ∷ last ∷ last ∷ []) in
      let fits : length (leaves_taken choice) + length (leaves ∷ rest) ≤ 3 =
      omega (arith, taken-length, trees-left, b.asked.few, b.some) in
      choose-sized choice.phone (leaves_taken choice) (matrix_met width choice) (leaves ∷ rest) fits
      (omega (arith, met-length, b.held))

  -- the whole is what all leaves of the first tree give
  all-given : chosen_from width trees first second third choice ≡ concat_map gives tree
  unfolding choose
  all-given =
      ap (choose choice.phone (leaves_taken choice) (matrix_met width choice))
      (trees-next trees tree (leaves_in width second) (leaves_in width third) b.some
      (omega (arith, b.asked.few)))

-- the combinations that the leaves before a place give
abbrev pub given_before : (width trees : ℕ) → (first second third : List ℕ) → Choice → (place : ℕ)
    → List Combination
given_before width trees first second third choice place =
    concat_map (leaf_gives width trees second third choice) (take place (leaves_in width first))

-- these leaves have given theirs, and there was room for them
pub record Given (half width trees : ℕ) (first second third : List ℕ) (choice : Choice) (before : List ℕ)
    (count : ℕ) (space : List ℕ) (total from : ℕ) : Type 0 where
  pub begins : Beginning half width trees first second third choice
  pub holding : Holding half before count
  pub within : from ≤ length (leaves_in width first)
  pub grown : Added half before count (given_before width trees first second third choice from)
      (Ok total) space

-- and the leaf at the place fits
pub record Choosing (half width trees : ℕ) (first second third : List ℕ) (choice : Choice) (before : List ℕ)
    (count : ℕ) (space : List ℕ) (total place : ℕ) : Type 0 where
  pub begins : Beginning half width trees first second third choice
  pub holding : Holding half before count
  pub within : place ≤ length (leaves_in width first)
  pub found : place < length (leaves_in width first)
      → fits_at (matrix_met width choice) (leaves_in width first) place ≡ true
  pub grown : Added half before count (given_before width trees first second third choice place)
      (Ok total) space

module _ {half width trees : ℕ} {first second third : List ℕ} {choice : Choice} {before : List ℕ} {count : ℕ} where
  -- from 0 on
  pub given-none : Beginning half width trees first second third choice → Holding half before count
      → Given half width trees first second third choice before count before count 0
  unfolding concat_map
  given-none b h = record { begins = b; holding = h; within = omega arith; grown = grown-none h }

  -- the leaves up to the next that fits give none
  pub given-fit : {space : List ℕ} {total from place : ℕ}
      → Given half width trees first second third choice before count space total from
      → FirstFit (matrix_met width choice) (leaves_in width first) from place
      → Choosing half width trees first second third choice before count space total place
  given-fit g fit = record {
    begins = g.begins;
    holding = g.holding;
    within = fit.none.within;
    found = fit.found;
    grown =
        rw (passed_over _ _ (leaf_gives width trees second third choice) (gives_none g.begins) fit) g.grown;
  }

  module _ {space : List ℕ} {total place : ℕ}
      (inv : Choosing half width trees first second third choice before count space total place) where
    abbrev all : List Leaf
    all = leaves_in width first

    abbrev done : (place : ℕ) → List Combination
    done place = given_before width trees first second third choice place

    pub choosing-end : length all ≤ place
        → Added half before count (chosen_from width trees first second third choice)
        (Ok total) space
    choosing-end h = rw (all-given inv.begins) (rw (take_all place all h) at inv.grown)

    -- a turn
    pub choosing-holding : Holding half space total
    choosing-holding =
        grown-holding inv.holding (done place) inv.grown refl
        (gives-sized inv.begins (take place all))

    module _ (inside : place < length all) {next : Choice} (w : WithLeaf width choice first place next) where
      more : choice.taken < 3
      more = omega (arith, inv.begins.asked.few, inv.begins.some)

      pub choosing-asked : Choosable width (trees - 1) second third third next
      choosing-asked =
          let b = inv.begins in
          record {
            chosen = next-chosen b.asked.chosen b.three more first inside w (inv.found inside);
            few = omega (arith, w.1, b.asked.few, b.some);
            first_is = b.asked.second_is;
            second_is = b.asked.third_is;
            third_is = b.asked.third_is;
          }

      -- what the next choice begins is what the leaf gives
      leaf-given : chosen_from width (trees - 1) second third third next
          ≡ leaf_gives width trees second third choice (get_or all place no_leaf)
      leaf-given =
          let b = inv.begins in
          let leaves = next-leaves b.asked.chosen b.three more first inside w in
          let matrix = next-matrix b.asked.chosen b.three more first inside w in
          rw (w.0, leaves, matrix)

      module _ {after : List ℕ} {answer : Result ℕ Fault}
          (g : Added half space total (chosen_from width (trees - 1) second third third next) answer after) where
        one_more : Added half before count (done (place + 1)) answer after
        one_more =
            rw (taken-one (leaf_gives width trees second third choice) all place inside, ← leaf-given)
            (grown-then inv.holding (done place) inv.grown refl
            (gives-sized inv.begins (take place all)) _ g)

        -- no room
        pub choosing-over : {fault : Fault} → answer ≡ Err fault
            → Added half before count (chosen_from width trees first second third choice)
            (Err fault) after
        choosing-over stops =
            let gives = leaf_gives width trees second third choice in
            let left : List Leaf = drop (place + 1) all in
            let whole : chosen_from width trees first second third choice
            ≡ done (place + 1) ++ concat_map gives left =
            all-given inv.begins ∙ ap (concat_map gives) (sym (take-append-drop (place + 1) all))
            ∙ concat_map-append gives (take (place + 1) all) left in
            rw whole (grown-over inv.holding (done (place + 1)) one_more stops (concat_map gives left))

        pub choosing-again : {sum : ℕ} → answer ≡ Ok sum
            → Given half width trees first second third choice before count after sum (place + 1)
        choosing-again counts = record {
          begins = inv.begins;
          holding = inv.holding;
          within = omega (arith, inside);
          grown =
              subst (λ (a : Result ℕ Fault). Added half before count (done (place + 1)) a after)
              counts one_more;
        }
