-- What every combination of a book is: it carries some window, in the book's form, has a leaf of the book for
-- each state, and its phone stands in the centre of every window that it admits. The idea: choosing one leaf
-- more keeps each of these. The proof that one combination admits a context (demand/Choices.antt) and the proof
-- about paths use it.
use Rattle.std.specs.Prelude.{◌≡◌, refl, ℕ, suc, ◌+◌, ◌≤◌, ◌<◌, T}
use Rattle.std.proofs.Common.{sym, ◌∙◌, inl, inr, ⊎_elim, arith, length-append}
use Rattle.std.proofs.Math.Path.{subst}
use mathlib.Core.List.{List, [], ◌∷◌, ◌++◌, map}
use Rattle.std.proofs.Math.ListN.{length}
use Rattle.definitions.specs.Lists.{◌!◌, up_from, IsIn}
use Rattle.definitions.specs.BookLines.{is_phone}
use Rattle.definitions.specs.Tables.{Book, root_of}
use Rattle.definitions.specs.Combinations.{Leaf, leaves_of, Combination, choose, combinations_of}
use Rattle.definitions.specs.Combinations.{combinations}
use Rattle.definitions.specs.Metastates.{no_combination, numbered}
use Rattle.definitions.proofs.Laws.Lists.Lists.{up_from-length}
use Rattle.definitions.proofs.Laws.Lists.Members.{in-at, of-append, of-concat_map, of_one, of-up_from}
use Rattle.definitions.proofs.Laws.Text.Ranges.{phone_range}
use Rattle.definitions.proofs.Laws.Trees.Walks.{IsLeaf}
use Rattle.definitions.proofs.Laws.Books.Sound.{Sound}
use Rattle.definitions.proofs.Laws.Trees.Leaves.{below_all, of-ascending}
use Rattle.definitions.proofs.Demand.Carrier.{Carrier, holds_some, meet_of, top_of, fits, Wide, Formed}
use Rattle.definitions.proofs.Demand.Carrier.{meet-wide, meet-fits, top-wide, top-centre, yes-wide}
use Rattle.definitions.proofs.Demand.Carrier.{no-wide}

-- ---- a leaf of a tree is a leaf of the book, and has its form

abbrev pub LeafOf : Book → (node : ℕ) → Type 0
LeafOf book node = (node < length book.nodes) × IsLeaf book.nodes node

module _ (book : Book) (sound : Sound book) where
  tree-leaves : (phone state : ℕ) (l : Leaf) → IsIn l (leaves_of book phone state) → LeafOf book l.node
  unfolding leaves_of
  tree-leaves phone state l i =
      below_all book (λ m node. node < length book.nodes)
      (λ m node asked yes_node no_node e h.
      let (yes_later, no_later) = sound.forward node asked yes_node no_node e in
      (yes_later.listed, no_later.listed))
      (length book.nodes) _ (root_of book phone state) (sound.root phone state) l (of-ascending l _ i)

pub leaf-wide : (book : Book) → (phone state : ℕ) → phone ≤ book.phones → (l : Leaf)
    → IsIn l (leaves_of book phone state) → Wide book l.carried
unfolding leaves_of
leaf-wide book phone state p l i =
    (below_all book (λ m node. Wide book m)
    (λ m node asked yes_node no_node e w. (yes-wide w asked, no-wide w asked))
    (length book.nodes) _ (root_of book phone state) (top-wide book phone p) l (of-ascending l _ i)).0

-- ---- the combinations that begin with some leaves

-- the leaves of a phone's trees for some states
abbrev pub trees_of : Book → (phone : ℕ) → (states : List ℕ) → List (List Leaf)
trees_of book phone states = map (λ state. leaves_of book phone state) states

-- a combination that begins with these leaves, whose carriers meet in m, and takes `more` further ones
pub record Begins (book : Book) (phone : ℕ) (leaves : List ℕ) (m : Carrier) (more : ℕ) (c : Combination)
    : Type 0 where
  pub phone_is : c.phone ≡ phone
  pub wide : Wide book c.carried
  -- it admits nothing that m does not
  pub inside : (W : List ℕ) → T (fits c.carried W) → T (fits m W)
  pub count : length c.leaves ≡ length leaves + more
  pub each : ((node : ℕ) → IsIn node leaves → LeafOf book node)
      → (node : ℕ) → IsIn node c.leaves → LeafOf book node

module _ (book : Book) (sound : Sound book) (phone : ℕ) (in-book : phone ≤ book.phones) where
  begins-last : (leaves : List ℕ) (m : Carrier) → Wide book m
      → Begins book phone leaves m 0 (record { phone = phone; leaves = leaves; carried = m })
  begins-last leaves m f = record {
    phone_is = refl;
    wide = f;
    inside = λ W h. h;
    count = omega arith;
    each = λ h. h;
  }

  begins-more : (leaves : List ℕ) (m : Carrier) (more : ℕ) (l : Leaf) (c : Combination)
      → Wide book m → Wide book l.carried
      → LeafOf book l.node
      → Begins book phone (leaves ++ (l.node ∷ [])) (meet_of m l.carried) more c
      → Begins book phone leaves m (suc more) c
  begins-more leaves m more l c f g known b = record {
    phone_is = b.phone_is;
    wide = b.wide;
    inside = λ W h. ((meet-fits f g W).0 (b.inside W h)).0;
    count = omega (arith, b.count, length-append leaves (l.node ∷ []));
    each = λ h. b.each (λ node i. ⊎_elim (h node) (one node) (of-append node leaves (l.node ∷ []) i));
  }
    where
      one : (node : ℕ) → IsIn node (l.node ∷ []) → LeafOf book node
      one node (inl e) = subst (LeafOf book) (sym e) known
      one node (inr i) = absurd i

  pub choose-begins : (states leaves : List ℕ) (m : Carrier) → Wide book m
      → (c : Combination) → IsIn c (choose phone leaves m (trees_of book phone states))
      → Begins book phone leaves m (length states) c
  unfolding choose
  choose-begins [] leaves m f c i =
      subst (Begins book phone leaves m 0) (sym (of_one _ (holds_some m) c i).1) (begins-last leaves m f)
  choose-begins (s ∷ states) leaves m f c i =
      let (l, j, k) = of-concat_map _ c (leaves_of book phone s) i in
      let g = leaf-wide book phone s in-book l j in
      begins-more leaves m (length states) l c f g (tree-leaves book sound phone s l j)
      (choose-begins states (leaves ++ (l.node ∷ [])) (meet_of m l.carried) (meet-wide f g) c k)

-- ---- the combinations of a book

pub record Chosen (book : Book) (c : Combination) : Type 0 where
  pub formed : Formed book c.carried
  pub phone-of : T (is_phone book.phones c.phone)
  pub count : length c.leaves ≡ book.states
  pub each_leaf : (node : ℕ) → IsIn node c.leaves → LeafOf book node
  -- a window that it admits has its phone in the centre
  pub centre : (W : List ℕ) → T (fits c.carried W) → W ! book.half ≡ c.phone

choose-holds : (phone : ℕ) (leaves : List ℕ) (m : Carrier) (trees : List (List Leaf)) (c : Combination)
    → IsIn c (choose phone leaves m trees) → T (holds_some c.carried)
unfolding choose
choose-holds phone leaves m [] c i =
    let (h, e) = of_one _ (holds_some m) c i in subst (λ z. T (holds_some z.carried)) (sym e) h
choose-holds phone leaves m (tree ∷ trees) c i =
    let (l, j, k) = of-concat_map _ c tree i in choose-holds phone (leaves ++ (l.node ∷ [])) _ trees c k

chosen : (book : Book) → Sound book → (c : Combination) → IsIn c (combinations book) → Chosen book c
unfolding combinations combinations_of
chosen book sound c i =
    let (p, j, k) = of-concat_map (combinations_of book) c (up_from 1 book.phones) i in
    let l = of-up_from 1 book.phones p j in
    let here : p ≤ book.phones = omega (arith, l) in
    of-phone p l (choose-holds p [] (top_of book p) _ c k)
    (choose-begins book sound p here (up_from 1 book.states) [] (top_of book p) (top-wide book p here) c k)
  where
    of-phone : (p : ℕ) → (1 ≤ p) × (p < 1 + book.phones) → T (holds_some c.carried)
        → Begins book p [] (top_of book p) (length (up_from 1 book.states)) c
        → Chosen book c
    of-phone p l h b = record {
      formed = record { wide = b.wide; holds = h };
      phone-of = (phone_range book.phones c.phone).1 (omega (arith, l, b.phone_is));
      count = omega (arith, b.count, up_from-length 1 book.states);
      each_leaf = b.each (λ node z. absurd z);
      centre = λ W t. top-centre book p l.0 W (b.inside W t) ∙ sym b.phone_is;
    }

-- a combination by its number
abbrev pub combination_at : Book → ℕ → Combination
combination_at book j = numbered (combinations book) j

pub chosen_at : (book : Book) → Sound book → (j : ℕ) → j < length (combinations book)
    → Chosen book (combination_at book j)
chosen_at book sound j l =
    chosen book sound (combination_at book j) (in-at (combinations book) j no_combination l)
