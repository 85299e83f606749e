-- Exactly one combination of a book admits a context: its phone is the context's centre, its leaves are those
-- that the context reaches in the trees of that phone. The idea: of each tree one leaf admits the context; a
-- leaf that does not leads to no combination that does, since a meet admits no more than its parts. So what
-- the test leaves of all combinations is an equation, tree by tree, phone by phone. ChoicesAlong takes a
-- combination for each window by it.
use Rattle.std.specs.Prelude.{◌≡◌, Bool, true, false, ℕ, ◌≤◌, ◌<◌, T, eqb, length}
use Rattle.std.proofs.Math.Path.{refl, sym}
use Rattle.std.proofs.Common.{ap, ◌∙◌, subst, arith}
use mathlib.Core.List.{List, [], ◌∷◌, ◌++◌, map, append-nil, append_assoc}
use Rattle.std.proofs.Math.Bool.{and-false}
use Rattle.std.proofs.Math.Dec.{eqb_refl}
use Rattle.definitions.specs.Lists.{◌!◌, select, up_from, IsIn}
use Rattle.definitions.specs.Tables.{Book, root_of}
use Rattle.definitions.specs.Lookup.{leaf_reached}
use Rattle.definitions.specs.Combinations.{Leaf, leaves_of, Combination, choose, combinations_of}
use Rattle.definitions.specs.Combinations.{combinations}
use Rattle.definitions.specs.Metastates.{no_combination}
use Rattle.definitions.proofs.Laws.Lists.Tests.{if-true, every-at}
use Rattle.definitions.proofs.Laws.Lists.Members.{of-up_from}
use Rattle.definitions.proofs.Laws.Lists.Selected.{select-none, select-one, one_passes, map-one}
use Rattle.definitions.proofs.Laws.Lists.Selected.{select-concat_map, concat_map-one, select-up_from}
use Rattle.definitions.proofs.Laws.Text.Ranges.{phone_range}
use Rattle.definitions.proofs.Laws.Books.Sound.{columns_of, AllPhones, Sound}
use Rattle.definitions.proofs.Demand.Carrier.{Carrier, holds_some, meet_of, top_of, fits, Wide, fits-meet}
use Rattle.definitions.proofs.Demand.Carrier.{meet-wide, meet-fits, fits-holds, top-wide, fits-top}
use Rattle.definitions.proofs.Demand.Trees.{leaf_admits, one-leaf}
use Rattle.definitions.proofs.Demand.Chosen.{combination_at, choose-begins, trees_of, leaf-wide}

-- ---- one choice from the trees of a phone

abbrev combination_admits : (W : List ℕ) → Combination → Bool
combination_admits W c = fits c.carried W

-- the leaves that a context reaches in the trees of a phone, state by state
abbrev pub leaves_reached : Book → (W : List ℕ) → (phone : ℕ) → List ℕ
leaves_reached book W phone =
    map (λ state. leaf_reached book.nodes book.classes W (root_of book phone state))
    (up_from 1 book.states)

-- a list of one combination, with that phone and those leaves
abbrev IsOne : (phone : ℕ) (leaves : List ℕ) → List Combination → Type 0
IsOne phone leaves found = (c : Combination) × (found ≡ c ∷ []) × (c.phone ≡ phone) × (c.leaves ≡ leaves)

fails-too : (a b : Bool) → (T a → T b) → b ≡ false → a ≡ false
fails-too true b h e = absurd (subst T e (h tt))
fails-too false b h e = refl

module _ (book : Book) (sound : Sound book) (W : List ℕ) (phone : ℕ) (in-book : phone ≤ book.phones) where
  abbrev found : (states leaves : List ℕ) → Carrier → List Combination
  found states leaves m = select (combination_admits W) (choose phone leaves m (trees_of book phone states))

  own-top : Wide book (top_of book phone)
  own-top = top-wide book phone in-book

  -- where the meet of the leaves so far does not admit the context, no combination does
  choose-none : (states leaves : List ℕ) (m : Carrier) → Wide book m → fits m W ≡ false
      → found states leaves m ≡ []
  choose-none states leaves m w e = select-none (combination_admits W) _ λ c i.
      let inside = (choose-begins book sound phone in-book states leaves m w c i).inside W in
      fails-too (fits c.carried W) (fits m W) inside e

  abbrev reached : ℕ → ℕ
  reached state = leaf_reached book.nodes book.classes W (root_of book phone state)

  -- the one leaf of a tree that admits the context
  the-leaf : T (fits (top_of book phone) W) → (s : ℕ)
      → (l : Leaf) × (select (leaf_admits W) (leaves_of book phone s) ≡ l ∷ []) × (l.node ≡ reached s)
  the-leaf r s = map-one (λ l. l.node) _ (reached s) (one-leaf book sound W phone s in-book r)

  leaves-wide : (s : ℕ) (l : Leaf) → IsIn l (leaves_of book phone s) → Wide book l.carried
  leaves-wide s l i = leaf-wide book phone s in-book l i

  -- the choice goes on with it
  choose-on : (s : ℕ) (states leaves : List ℕ) (m : Carrier) → Wide book m → (l : Leaf)
      → select (leaf_admits W) (leaves_of book phone s) ≡ l ∷ []
      → found (s ∷ states) leaves m ≡ found states (leaves ++ (l.node ∷ [])) (meet_of m l.carried)
  unfolding choose
  choose-on s states leaves m w l e =
      select-concat_map (combination_admits W) _ (leaves_of book phone s)
      ∙ concat_map-one (leaf_admits W) next (leaves_of book phone s) l e none
    where
      next : Leaf → List Combination
      next l = found states (leaves ++ (l.node ∷ [])) (meet_of m l.carried)

      none : (l : Leaf) → IsIn l (leaves_of book phone s) → leaf_admits W l ≡ false → next l ≡ []
      none l i f =
          let own = leaves-wide s l i in
          choose-none states (leaves ++ (l.node ∷ [])) (meet_of m l.carried) (meet-wide w own)
          (rw (fits-meet w own W, f) (and-false (fits m W)))

  choose-last : (leaves : List ℕ) (m : Carrier) → T (fits m W)
      → IsOne phone (leaves ++ []) (found [] leaves m)
  unfolding choose select
  choose-last leaves m h = (c, picked ∙ if-true (fits m W) (c ∷ []) [] h, refl, sym (append-nil leaves))
    where
      c : Combination
      c = record { phone = phone; leaves = leaves; carried = m }

      picked : found [] leaves m ≡ select (combination_admits W) (c ∷ [])
      picked = ap (select (combination_admits W)) (if-true (holds_some m) (c ∷ []) [] (fits-holds m W h))

  choose_one : T (fits (top_of book phone) W) → (states leaves : List ℕ) (m : Carrier) → Wide book m
      → T (fits m W) → IsOne phone (leaves ++ map reached states) (found states leaves m)
  choose_one r [] leaves m w h = choose-last leaves m h
  choose_one r (s ∷ states) leaves m w h =
      let (l, e, node) = the-leaf r s in
      let (i, a) = one_passes (leaf_admits W) (leaves_of book phone s) l e in
      let own = leaves-wide s l i in
      let (c, one, p, ls) = choose_one r states (leaves ++ (l.node ∷ [])) (meet_of m l.carried)
      (meet-wide w own) ((meet-fits w own W).1 (h, a)) in
      (c, choose-on s states leaves m w l e ∙ one, p, ls ∙ joined l node)
    where
      joined : (l : Leaf) → l.node ≡ reached s
          → leaves ++ (l.node ∷ []) ++ map reached states ≡ leaves ++ (reached s ∷ map reached states)
      joined l e = rw e (append_assoc leaves (reached s ∷ []) (map reached states))

  combinations-one : T (fits (top_of book phone) W)
      → IsOne phone (leaves_reached book W phone) (select (combination_admits W) (combinations_of book phone))
  unfolding combinations_of
  combinations-one r = choose_one r (up_from 1 book.states) [] (top_of book phone) own-top r

  combinations-none : fits (top_of book phone) W ≡ false
      → select (combination_admits W) (combinations_of book phone) ≡ []
  unfolding combinations_of
  combinations-none e = choose-none (up_from 1 book.states) [] (top_of book phone) own-top e

-- ---- one choice from the whole book

-- the number of the one combination that admits a context
pub record TheChoice (book : Book) (W : List ℕ) : Type 0 where
  pub number : ℕ
  pub listed : number < length (combinations book)
  pub admitting : T (fits (combination_at book number).carried W)
  pub phone_is : (combination_at book number).phone ≡ W ! book.half
  pub leaves_are : (combination_at book number).leaves ≡ leaves_reached book W (W ! book.half)
  pub only : (i : ℕ) → i < length (combinations book)
      → T (fits (combination_at book i).carried W) → i ≡ number

module _ (book : Book) (sound : Sound book) (W : List ℕ)
    (long : length W ≡ columns_of book) (range : AllPhones book W) where
  abbrev centre : ℕ
  centre = W ! book.half

  -- the centre is a phone of the book
  centre-range : (1 ≤ centre) × (centre ≤ book.phones)
  centre-range = (phone_range book.phones centre).0 (every-at _ W 0 range book.half (omega arith))

  centre-admits : (p : ℕ) → 1 ≤ p → fits (top_of book p) W ≡ eqb centre p
  centre-admits p l = fits-top book p l W long range

  -- what the trees of a phone give
  abbrev found_at : (phone : ℕ) → List Combination
  found_at phone = select (combination_admits W) (combinations_of book phone)

  -- only the centre's trees give anything
  only-centre : select (combination_admits W) (combinations book) ≡ found_at centre
  unfolding combinations
  only-centre =
      select-concat_map (combination_admits W) (combinations_of book) (up_from 1 book.phones)
      ∙ concat_map-one (eqb centre) found_at (up_from 1 book.phones) centre once none
    where
      once : select (eqb centre) (up_from 1 book.phones) ≡ centre ∷ []
      once = select-up_from 1 book.phones centre centre-range.0 (omega (arith, centre-range))

      none : (p : ℕ) → IsIn p (up_from 1 book.phones) → eqb centre p ≡ false → found_at p ≡ []
      none p i e =
          let l = of-up_from 1 book.phones p i in
          combinations-none book sound W p (omega (arith, l)) (centre-admits p l.0 ∙ e)

  one_Choice
      : IsOne centre (leaves_reached book W centre) (select (combination_admits W) (combinations book))
  one_Choice =
      let here = subst T (sym (centre-admits centre centre-range.0)) (eqb_refl centre) in
      let (c, one, p, ls) = combinations-one book sound W centre centre-range.1 here in
      (c, only-centre ∙ one, p, ls)

  pub the-choice : TheChoice book W
  the-choice =
      let (c, one, p, ls) = one_Choice in
      let (j, h, e, only) = select-one (combination_admits W) (combinations book) c no_combination one in
      record {
        number = j;
        listed = h;
        admitting = rw e (one_passes (combination_admits W) (combinations book) c one).1;
        phone_is = rw e p;
        leaves_are = rw e ls;
        only = only;
      }
