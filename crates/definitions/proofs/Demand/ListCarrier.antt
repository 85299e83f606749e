-- The names and laws of Carrier.antt for lists of matrices (document 02, P6): a list admits a window when one of its
-- matrices does. The idea: a normal form has exactly the valid matrices of a list, and a matrix that admits a window is
-- valid; so each law is the one for matrices, for some member. How long a list is, and its order, is used nowhere.
use Rattle.std.specs.Prelude.{◌≡◌, ◌↔◌, Bool, ◌&&◌, ℕ, ◌+◌, ◌≤◌, ◌<◌, eqb, take}
use Rattle.std.proofs.Math.Path.{refl, sym, ap, subst}
use Rattle.std.proofs.Common.{◌∙◌, arith, T_not, length-append, take_at}
use Rattle.std.proofs.Math.Logic.{inl, inr}
use mathlib.Core.List.{List, [], ◌∷◌, ◌++◌, map}
use Rattle.std.proofs.Math.Bool.{true, false, not, and-true, and_assoc}
use Rattle.std.proofs.Math.Dec.{T, not_T}
use Rattle.std.proofs.Math.ListN.{length, replicate}
use Rattle.definitions.specs.Lists.{◌!◌, every, at_least_one, concat_map, IsIn}
use Rattle.definitions.specs.BookLines.{is_phone, Part}
use Rattle.definitions.specs.Tables.{Book}
use Rattle.definitions.specs.Lookup.{answers}
use Rattle.definitions.specs.Matrices.{Matrix, root_matrix, yes_side, no_side, valid, meet, shift, start_cut}
use Rattle.definitions.specs.Matrices.{ends_here}
use Rattle.definitions.specs.MatrixLists.{normal, holds_some, same_list, pairs_met, meet_lists, shift_list}
use Rattle.definitions.specs.MatrixLists.{root_list, start_list, list_ends, set_asked, all_yes, yes_list, each_no}
use Rattle.definitions.specs.MatrixLists.{no_list}
use Rattle.definitions.proofs.Laws.Lists.Tests.{Tells, T_and, same_tests}
use Rattle.definitions.proofs.Laws.Lists.Lists.{every-cons, every-parts}
use Rattle.definitions.proofs.Laws.Lists.Members.{some_is, in-every, of-single, in_map, of_map, in-concat_map}
use Rattle.definitions.proofs.Laws.Lists.Members.{of-concat_map}
use Rattle.definitions.proofs.Laws.Matrices.Matrices.{Below, meet-length, meet_below, shift-length}
use Rattle.definitions.proofs.Laws.Matrices.Matrices.{shift-below, start-length, start-below, yes-length}
use Rattle.definitions.proofs.Laws.Matrices.Matrices.{yes-below, no_length, no-below, root-length}
use Rattle.definitions.proofs.Laws.Matrices.Matrices.{root_below}
use Rattle.definitions.proofs.Laws.Matrices.MatrixLists.{normal-is, same-list-is, same-list-self}
use Rattle.definitions.proofs.Laws.Books.Sound.{columns_of, AllPhones}
use Rattle.definitions.proofs.Demand.Windows.{admits, admits-take, meet-admits, shift-admits-rest}
use Rattle.definitions.proofs.Demand.Windows.{shift-admits-from, admits-valid, valid-admits, admits-ends}
use Rattle.definitions.proofs.Demand.Windows.{ends-admits, start-admits}
use Rattle.definitions.proofs.Demand.TreeWindows.{admits-yes, admits-no, admits-root, root-centre}

-- ---- windows and form

-- the window at the beginning of W is admitted
abbrev pub fits : List Matrix → (W : List ℕ) → Bool
fits l W = at_least_one (λ m. admits m W) l

-- some matrix of a list admits it
abbrev Fits : List Matrix → (W : List ℕ) → Type 0
Fits l W = (m : Matrix) × IsIn m l × T (admits m W)

fits-is : (l : List Matrix) (W : List ℕ) → T (fits l W) ↔ Fits l W
fits-is l W = some_is (λ m. admits m W) l

-- a matrix of the book's width, with phones of the book only
pub record Broad (book : Book) (m : Matrix) : Type 0 where
  pub columns : length m ≡ columns_of book
  pub below : Below book.phones m

-- a list of such matrices, all valid: every operation keeps it
pub record Wide (book : Book) (l : List Matrix) : Type 0 where
  pub each : (m : Matrix) → IsIn m l → Broad book m
  pub passes : (m : Matrix) → IsIn m l → T (valid m)

-- and with some window: what a choice, a start or a step has tested
pub record Formed (book : Book) (l : List Matrix) : Type 0 where
  pub wide : Wide book l
  pub holds : T (holds_some l)

-- a window of the book's phones that is admitted
pub record SomeWindow (book : Book) (l : List Matrix) : Type 0 where
  pub window : List ℕ
  pub size : length window ≡ columns_of book
  pub phones-in : AllPhones book window
  pub admitted : T (fits l window)

-- ---- 0. The normal form of a list admits what the list admits, and is wide where its matrices are broad.

fits-normal : (l : List Matrix) (W : List ℕ) → T (fits (normal l) W) ↔ Fits l W
fits-normal l W = (
  λ h. let (m, i, a) = (fits-is (normal l) W).0 h in (m, ((normal-is l m).0 i).0, a),
  λ (m, i, a). (fits-is (normal l) W).1 (m, (normal-is l m).1 (i, admits-valid m W a), a),
)

normal-wide : {book : Book} (l : List Matrix) → ((m : Matrix) → IsIn m l → Broad book m) → Wide book (normal l)
normal-wide l b = record {
  each = λ m i. b m ((normal-is l m).0 i).0;
  passes = λ m i. ((normal-is l m).0 i).1;
}

-- lists that pass the test for sameness are equal
pub lists-told : Tells same_list
lists-told = record { same_equal = same-list-is; self = same-list-self }

-- only the beginning of a list of phones is looked at
pub fits-take : {book : Book} {l : List Matrix} → Wide book l → (W : List ℕ)
    → fits l (take (columns_of book) W) ≡ fits l W
fits-take {book} {l} w W =
    same_tests _ _
    (λ h. let (m, i, a) = (fits-is l (take (columns_of book) W)).0 h in (fits-is l W).1 (m, i, subst T (sees m i) a))
    (λ h. let (m, i, a) = (fits-is l W).0 h in
    (fits-is l (take (columns_of book) W)).1 (m, i, subst T (sym (sees m i)) a))
  where
    sees : (m : Matrix) → IsIn m l → admits m (take (columns_of book) W) ≡ admits m W
    sees m i = ap (λ (k : ℕ). admits m (take k W)) (sym (w.each m i).columns) ∙ admits-take m W

-- ---- 1. The meet admits what both admit.

of-pairs : (k l : List Matrix) (m : Matrix) → IsIn m (pairs_met k l)
    → (x : Matrix) × IsIn x k × ((y : Matrix) × IsIn y l × (m ≡ meet x y))
of-pairs k l m h =
    let (x, i, j) = of-concat_map (λ x. map (meet x) l) m k h in (x, i, of_map (meet x) m l j)

in_pairs : (k l : List Matrix) (x y : Matrix) → IsIn x k → IsIn y l → IsIn (meet x y) (pairs_met k l)
in_pairs k l x y i j = in-concat_map (λ x. map (meet x) l) x (meet x y) k i (in_map (meet x) y l j)

module _ {book : Book} {k l : List Matrix} (v : Wide book k) (w : Wide book l) where
  as_wide : (x y : Matrix) → IsIn x k → IsIn y l → length x ≡ length y
  as_wide x y i j = (v.each x i).columns ∙ sym (w.each y j).columns

  pub meet-wide : Wide book (meet_lists k l)
  unfolding meet_lists
  meet-wide = normal-wide (pairs_met k l) λ m i.
      let (x, s, (y, t, e)) = of-pairs k l m i in
      subst (Broad book) (sym e) (record {
        columns = meet-length x y (as_wide x y s t) ∙ (v.each x s).columns;
        below = meet_below book.phones x y (v.each x s).below;
      })

  pub meet-fits : (W : List ℕ) → T (fits (meet_lists k l) W) ↔ (T (fits k W) × T (fits l W))
  unfolding meet_lists
  meet-fits W = (there, back)
    where
      there : T (fits (meet_lists k l) W) → T (fits k W) × T (fits l W)
      there h =
          let (m, i, a) = (fits-normal (pairs_met k l) W).0 h in
          let (x, s, (y, t, e)) = of-pairs k l m i in
          let both = (meet-admits x y W (as_wide x y s t)).0 (subst (λ z. T (admits z W)) e a) in
          ((fits-is k W).1 (x, s, both.0), (fits-is l W).1 (y, t, both.1))

      back : T (fits k W) × T (fits l W) → T (fits (meet_lists k l) W)
      back (h, g) =
          let (x, s, a) = (fits-is k W).0 h in
          let (y, t, b) = (fits-is l W).0 g in
          (fits-normal (pairs_met k l) W).1
          (meet x y, in_pairs k l x y s t, (meet-admits x y W (as_wide x y s t)).1 (a, b))

  -- as an equation of tests
  pub fits-meet : (W : List ℕ) → fits (meet_lists k l) W ≡ (fits k W && fits l W)
  fits-meet W =
      same_tests _ _ (λ h. (T_and (fits k W) (fits l W)).1 ((meet-fits W).0 h))
      (λ h. (meet-fits W).1 ((T_and (fits k W) (fits l W)).0 h))

-- ---- 2. The shift admits what is left of an admitted list when its first phone goes.

-- a valid matrix is valid when shifted: with the first phone of an admitted window put last, the shift admits it
shift-valid : {book : Book} (m : Matrix) → Broad book m → T (valid m) → T (valid (shift book.phones m))
unfolding every
shift-valid {book} m b v =
    let w = valid-admits book.phones m b.below v in
    go w.window w.width w.phones-in w.admitted
  where
    go : (W : List ℕ) → length W ≡ length m → AllPhones book W → T (admits m W)
        → T (valid (shift book.phones m))
    go [] e p a = absurd (omega (arith, e, b.columns))
    go (x ∷ W) e p a =
        let (first, others) = (every-cons (is_phone book.phones) x W).0 p in
        let again : List ℕ = W ++ (x ∷ []) in
        let long : length again ≡ length m = length-append W (x ∷ []) ∙ omega arith in
        let whole : admits m (x ∷ again) ≡ admits m (x ∷ W) =
        sym (admits-take m (x ∷ again))
        ∙ ap (λ (Z : List ℕ). admits m Z) (take_at (x ∷ W) (x ∷ []) (length m) e) in
        let phones = (every-parts (is_phone book.phones) W (x ∷ [])).1
        (others, (every-cons (is_phone book.phones) x []).1 (first, tt)) in
        admits-valid _ again
        (shift-admits-rest book.phones m x again (omega (arith, b.columns)) (omega (arith, long))
        phones (subst T (sym whole) a))

some : {book : Book} {m : Matrix} → Broad book m → 0 < length m
some b = omega (arith, b.columns)

module _ {book : Book} {l : List Matrix} where
  pub shift-wide : Wide book l → Wide book (shift_list book.phones l)
  unfolding shift_list
  shift-wide w = record {
    each = λ m i.
        let (x, j, e) = of_map (shift book.phones) m l i in
        let b = w.each x j in
        subst (Broad book) (sym e) (record {
          columns = shift-length book.phones x (some b) ∙ b.columns;
          below = shift-below book.phones x b.below;
        });
    passes = λ m i.
        let (x, j, e) = of_map (shift book.phones) m l i in
        subst (λ z. T (valid z)) (sym e) (shift-valid x (w.each x j) (w.passes x j));
  }

  pub shift-fits-rest : Wide book l → (x : ℕ) (W : List ℕ) → columns_of book ≤ length W → AllPhones book W
      → T (fits l (x ∷ W)) → T (fits (shift_list book.phones l) W)
  unfolding shift_list
  shift-fits-rest w x W long r h =
      let (m, i, a) = (fits-is l (x ∷ W)).0 h in
      (fits-is (map (shift book.phones) l) W).1 (
        shift book.phones m,
        in_map (shift book.phones) m l i,
        shift-admits-rest book.phones m x W (some (w.each m i)) (rw (w.each m i).columns long) r a,
      )

  -- some phone can stand before what the shift admits
  pub shift-fits-from : Formed book l → (W : List ℕ) → T (fits (shift_list book.phones l) W)
      → (x : ℕ) × T (is_phone book.phones x) × T (fits l (x ∷ W))
  unfolding shift_list
  shift-fits-from f W h =
      let (m, i, a) = (fits-is (map (shift book.phones) l) W).0 h in
      let (y, j, e) = of_map (shift book.phones) m l i in
      let b = f.wide.each y j in
      let (x, p, c) = shift-admits-from book.phones y W (some b) b.below (f.wide.passes y j)
      (subst (λ z. T (admits z W)) e a) in
      (x, p, (fits-is l (x ∷ W)).1 (y, j, c))

-- ---- 3. The test holds exactly where some window is admitted.

holds-some : (l : List Matrix) → T (holds_some l) ↔ ((m : Matrix) × IsIn m l)
unfolding holds_some
holds-some [] = (λ h. absurd h, λ h. h.1)
holds-some (m ∷ l) = (λ h. (m, inl refl), λ h. tt)

pub fits-holds : (l : List Matrix) (W : List ℕ) → T (fits l W) → T (holds_some l)
fits-holds l W h = let (m, i, a) = (fits-is l W).0 h in (holds-some l).1 (m, i)

pub holds_fits : {book : Book} {l : List Matrix} → Formed book l → SomeWindow book l
holds_fits {book} {l} f =
    let (m, i) = (holds-some l).0 f.holds in
    let b = f.wide.each m i in
    let w = valid-admits book.phones m b.below (f.wide.passes m i) in
    record {
      window = w.window;
      size = w.width ∙ b.columns;
      phones-in = w.phones-in;
      admitted = (fits-is l w.window).1 (m, i, w.admitted);
    }

module _ {book : Book} {l : List Matrix} where
  -- ---- 4. The end test holds exactly where some admitted window has silence in all places right of the centre.

  pub fits-ends : Wide book l → (U : List ℕ) → length U ≡ book.half + 1
      → T (fits l (U ++ replicate book.half 1)) → T (list_ends book.half l)
  unfolding list_ends
  fits-ends w U e h =
      let (m, i, a) = (fits-is l (U ++ replicate book.half 1)).0 h in
      (some_is (ends_here book.half) l).1 (m, i, admits-ends book.half m (w.each m i).columns U e a)

  pub ends-fits : Formed book l → T (list_ends book.half l)
      → (U : List ℕ) × (length U ≡ book.half + 1) × AllPhones book U
      × T (fits l (U ++ replicate book.half 1))
  unfolding list_ends
  ends-fits f h =
      let (m, i, a) = (some_is (ends_here book.half) l).0 h in
      let b = f.wide.each m i in
      let (U, e, p, c) = ends-admits book.half m b.columns book.phones b.below (f.wide.passes m i) a in
      (U, e, p, (fits-is l (U ++ replicate book.half 1)).1 (m, i, c))

  -- ---- 5. The start's cut admits what was admitted with silence left of the centre.

  pub cut-wide : Wide book l → Wide book (start_list book.half l)
  unfolding start_list
  cut-wide w = normal-wide (map (start_cut book.half) l) λ m i.
      let (x, j, e) = of_map (start_cut book.half) m l i in
      subst (Broad book) (sym e) (record {
        columns = start-length book.half x ∙ (w.each x j).columns;
        below = start-below book.phones book.half x (w.each x j).below;
      })

  pub cut_fits : Wide book l → (W : List ℕ) → T (fits (start_list book.half l) W)
      ↔ (T (fits l W) × (take book.half W ≡ replicate book.half 1))
  unfolding start_list
  cut_fits w W = (there, back)
    where
      long : (x : Matrix) → IsIn x l → book.half ≤ length x
      long x j = omega (arith, (w.each x j).columns)

      there : T (fits (start_list book.half l) W)
          → T (fits l W) × (take book.half W ≡ replicate book.half 1)
      there h =
          let (m, i, a) = (fits-normal (map (start_cut book.half) l) W).0 h in
          let (x, j, e) = of_map (start_cut book.half) m l i in
          let both = (start-admits book.half x W (long x j)).0 (subst (λ z. T (admits z W)) e a) in
          ((fits-is l W).1 (x, j, both.0), both.1)

      back : T (fits l W) × (take book.half W ≡ replicate book.half 1)
          → T (fits (start_list book.half l) W)
      back (h, left) =
          let (x, j, a) = (fits-is l W).0 h in
          (fits-normal (map (start_cut book.half) l) W).1 (
            start_cut book.half x,
            in_map (start_cut book.half) x l j,
            (start-admits book.half x W (long x j)).1 (a, left),
          )

-- ---- 6. The roots of a phone's trees admit the windows with the phone in the centre.

module _ (book : Book) (phone : ℕ) where
  abbrev root : Matrix
  root = root_matrix book.half book.phones phone

  abbrev top : List Matrix
  top = root_list book.half book.phones phone

  pub top-wide : phone ≤ book.phones → Wide book (root_list book.half book.phones phone)
  unfolding root_list
  top-wide h = normal-wide (root ∷ []) λ m i.
      subst (Broad book) (sym (of-single root m i)) (record {
        columns = root-length book.half book.phones phone;
        below = root_below book.half book.phones phone h;
      })

  -- what a root's list admits, its one matrix does
  top-root : (W : List ℕ) → T (fits top W) ↔ T (admits root W)
  unfolding root_list
  top-root W = (
    λ h. let (m, i, a) = (fits-normal (root ∷ []) W).0 h in
        subst (λ z. T (admits z W)) (of-single root m i) a,
    λ a. (fits-normal (root ∷ []) W).1 (root, inl refl, a),
  )

  pub fits-top : 1 ≤ phone → (W : List ℕ) → length W ≡ columns_of book → AllPhones book W
      → fits (root_list book.half book.phones phone) W ≡ eqb (W ! book.half) phone
  fits-top h W e p =
      same_tests _ _ (top-root W).0 (top-root W).1 ∙ admits-root book.half book.phones phone W h e p

  -- also where the list of phones is longer than a window
  pub top-centre : 1 ≤ phone → (W : List ℕ) → T (fits (root_list book.half book.phones phone) W)
      → W ! book.half ≡ phone
  top-centre h W t = root-centre book.half book.phones phone h W ((top-root W).0 t)

-- ---- 7. The two sides of a question divide the windows by the answer.

-- the answer to a question of several parts: "yes when all parts are yes"
abbrev pub answers_all : (classes context : List ℕ) → List Part → Bool
answers_all classes context parts = every (answers classes context) parts

-- each part asks about a place of the window
abbrev pub PartsWithin : (width : ℕ) → List Part → Type 0
PartsWithin width parts = (part : Part) → IsIn part parts → part.position < width

module _ (classes : List ℕ) where
  yes-broad : {book : Book} (parts : List Part) (m : Matrix) → Broad book m → Broad book (all_yes classes parts m)
  unfolding all_yes
  yes-broad [] m b = b
  yes-broad {book} (part ∷ parts) m b = yes-broad parts _ (record {
    columns = yes-length part.position (set_asked classes part) m ∙ b.columns;
    below = yes-below book.phones part.position (set_asked classes part) m b.below;
  })

  no-broad : {book : Book} (part : Part) (m : Matrix) → Broad book m
      → Broad book (no_side part.position (set_asked classes part) m)
  no-broad {book} part m b = record {
    columns = no_length part.position (set_asked classes part) m ∙ b.columns;
    below = no-below book.phones part.position (set_asked classes part) m b.below;
  }

  -- the yes side of all parts cuts by each answer
  admits-all : (parts : List Part) (m : Matrix) (W : List ℕ) → PartsWithin (length m) parts
      → admits (all_yes classes parts m) W ≡ (admits m W && answers_all classes W parts)
  unfolding all_yes every answers
  admits-all [] m W h = sym (and-true (admits m W))
  admits-all (part ∷ parts) m W h =
      let side : Matrix = yes_side part.position (set_asked classes part) m in
      let as_long : length side ≡ length m = yes-length part.position (set_asked classes part) m in
      admits-all parts side W (λ q i. rw as_long (h q (inr i)))
      ∙ ap (λ (b : Bool). b && answers_all classes W parts)
      (admits-yes part.position (set_asked classes part) m W (h part (inl refl)))
      ∙ and_assoc (admits m W) (answers classes W part) (answers_all classes W parts)

  -- where not all parts hold, one fails
  one-fails : (W : List ℕ) (parts : List Part) → T (not (answers_all classes W parts))
      → (part : Part) × IsIn part parts × T (not (answers classes W part))
  unfolding every
  one-fails W [] h = absurd h
  one-fails W (part ∷ parts) h = go (answers classes W part) refl h (one-fails W parts)
    where
      go : (b : Bool) → answers classes W part ≡ b → T (not (b && answers_all classes W parts))
          → (T (not (answers_all classes W parts)) → (q : Part) × IsIn q parts × T (not (answers classes W q)))
          → (q : Part) × IsIn q (part ∷ parts) × T (not (answers classes W q))
      go true e k rest = let (q, i, t) = rest k in (q, inr i, t)
      go false e k rest = (part, inl refl, subst (λ (b : Bool). T (not b)) (sym e) tt)

  fails-one : (W : List ℕ) (parts : List Part) (part : Part) → IsIn part parts → T (not (answers classes W part))
      → T (not (answers_all classes W parts))
  fails-one W parts part i t =
      not_T (answers_all classes W parts)
      (λ all. T_not (answers classes W part) t (in-every (answers classes W) parts all part i))

module _ {book : Book} {l : List Matrix} (w : Wide book l) (parts : List Part) where
  abbrev classes : List ℕ
  classes = book.classes

  of-no : (m : Matrix) → IsIn m (concat_map (each_no classes parts) l)
      → (x : Matrix) × IsIn x l
      × ((part : Part) × IsIn part parts × (m ≡ no_side part.position (set_asked classes part) x))
  unfolding each_no
  of-no m i =
      let (x, j, k) = of-concat_map (each_no classes parts) m l i in
      (x, j, of_map (λ part. no_side part.position (set_asked classes part) x) m parts k)

  pub yes-wide : Wide book (yes_list book.classes parts l)
  unfolding yes_list
  yes-wide = normal-wide (map (all_yes classes parts) l) λ m i.
      let (x, j, e) = of_map (all_yes classes parts) m l i in
      subst (Broad book) (sym e) (yes-broad classes parts x (w.each x j))

  pub no-wide : Wide book (no_list book.classes parts l)
  unfolding no_list
  no-wide = normal-wide (concat_map (each_no classes parts) l) λ m i.
      let (x, j, (part, k, e)) = of-no m i in
      subst (Broad book) (sym e) (no-broad classes part x (w.each x j))

  module _ (asks : PartsWithin (columns_of book) parts) (W : List ℕ) where
    abbrev answer : Bool
    answer = answers_all classes W parts

    here : (x : Matrix) → IsIn x l → PartsWithin (length x) parts
    here x j part i = rw (w.each x j).columns (asks part i)

    pub fits-yes : fits (yes_list book.classes parts l) W ≡ (fits l W && answers_all book.classes W parts)
    unfolding yes_list
    fits-yes = same_tests _ _ there back
      where
        there : T (fits (yes_list classes parts l) W) → T (fits l W && answer)
        there h =
            let (m, i, a) = (fits-normal (map (all_yes classes parts) l) W).0 h in
            let (x, j, e) = of_map (all_yes classes parts) m l i in
            let both = (T_and (admits x W) answer).0
            (subst T (ap (λ z. admits z W) e ∙ admits-all classes parts x W (here x j)) a) in
            (T_and (fits l W) answer).1 ((fits-is l W).1 (x, j, both.0), both.1)

        back : T (fits l W && answer) → T (fits (yes_list classes parts l) W)
        back h =
            let (f, y) = (T_and (fits l W) answer).0 h in
            let (x, j, a) = (fits-is l W).0 f in
            (fits-normal (map (all_yes classes parts) l) W).1 (
              all_yes classes parts x,
              in_map (all_yes classes parts) x l j,
              subst T (sym (admits-all classes parts x W (here x j))) ((T_and (admits x W) answer).1 (a, y)),
            )

    pub fits-no : fits (no_list book.classes parts l) W
        ≡ (fits l W && not (answers_all book.classes W parts))
    unfolding no_list each_no answers
    fits-no = same_tests _ _ there back
      where
        there : T (fits (no_list classes parts l) W) → T (fits l W && not answer)
        there h =
            let (m, i, a) = (fits-normal (concat_map (each_no classes parts) l) W).0 h in
            let (x, j, (part, k, e)) = of-no m i in
            let side = admits-no part.position (set_asked classes part) x W (here x j part k) in
            let both = (T_and (admits x W) (not (answers classes W part))).0
            (subst T (ap (λ z. admits z W) e ∙ side) a) in
            (T_and (fits l W) (not answer)).1
            ((fits-is l W).1 (x, j, both.0), fails-one classes W parts part k both.1)

        back : T (fits l W && not answer) → T (fits (no_list classes parts l) W)
        back h =
            let (f, y) = (T_and (fits l W) (not answer)).0 h in
            let (x, j, a) = (fits-is l W).0 f in
            let (part, k, t) = one-fails classes W parts y in
            let side : Matrix = no_side part.position (set_asked classes part) x in
            (fits-normal (concat_map (each_no classes parts) l) W).1 (
              side,
              in-concat_map (each_no classes parts) x side l j
                  (in_map (λ part. no_side part.position (set_asked classes part) x) part parts k),
              subst T (sym (admits-no part.position (set_asked classes part) x W (here x j part k)))
                  ((T_and (admits x W) (not (answers classes W part))).1 (a, t)),
            )
