-- The combinations of an accepted book ascend strictly by (phone, first leaf, second, third), by their node
-- numbers. The leaves of a tree differ, so sorted they ascend strictly; combinations that take them in order
-- differ first where the earlier takes the lesser leaf. So no two have the same phone and leaves.
use Rattle.std.specs.Prelude.{◌≡◌, refl, ◌≢◌, List, [], ◌∷◌, ◌++◌, map, Bool, true, false, not, ℕ, zero, suc, ◌≤◌, ◌<◌, T, length, get_or}
use Rattle.std.proofs.Common.{sym, ap, ap₂, ◌∙◌, subst, inl, inr, append_assoc, append-nil, arith, ltb→lt, nltb→le}
use Rattle.std.proofs.lemmas.List.{map-append}
use Rattle.definitions.specs.Lists.{if◌then◌else◌, concat_map, up_from, IsIn, Distinct}
use Rattle.definitions.specs.Faults.{answered}
use Rattle.definitions.specs.BookLines.{BookLine, nodes_of, root_names, roots_of}
use Rattle.definitions.specs.BookReading.{Lent, read_book, ChildOnce}
use Rattle.definitions.specs.Tables.{Book, book_of, root_of, book_in, contents_of}
use Rattle.definitions.specs.Combinations.{Leaf, leaves_below, is_before, insert_leaf, ascending, leaves_of}
use Rattle.definitions.specs.Combinations.{Combination, choose, combinations_of, combinations, on_yes, on_no}
use Rattle.definitions.specs.Metastates.{no_combination}
use Rattle.definitions.proofs.Laws.Lists.Members.{in_map, of_map, of-concat_map, of_one}
use Rattle.definitions.proofs.Laws.Lists.Rising.{precedes, precedes-first, precedes-after, precedes-irreflexive}
use Rattle.definitions.proofs.Laws.Lists.Rising.{Rising, rising-at, rising-concat_map, rising-up_from}
use Rattle.definitions.proofs.Laws.Books.Books.{accepted-orderly}
use Rattle.definitions.proofs.Laws.Trees.Walks.{Forward, by-node}
use Rattle.definitions.proofs.Laws.Trees.Leaves.{of-insert, of-ascending}
use Rattle.definitions.proofs.Laws.Books.NamedOnce.{child-once, leaves_under, leaves-once}
use Rattle.definitions.proofs.Demand.Carrier.{Carrier, holds_some, meet_of, top_of}
use Rattle.definitions.proofs.Laws.Books.TreesInForce.{accepted-sound}

-- ---- the leaves of a tree

abbrev pub leaf_nodes : List Leaf → List ℕ
leaf_nodes leaves = map (λ l. l.node) leaves

pub nodes-below : (levels : ℕ) (book : Book) (m : Carrier) (node : ℕ)
    → leaf_nodes (leaves_below levels book m node) ≡ leaves_under levels book.nodes node
unfolding leaves_below concat_map
nodes-below zero book m node = refl
nodes-below (suc levels) book m node =
    by-node book.nodes node (λ model e. rw (e, leaves_below))
    (λ asked yes_node no_node e.
    let a : Carrier = on_yes book.classes asked m in
    let b : Carrier = on_no book.classes asked m in
    rw (e, leaves_below)
    (map-append _ (leaves_below levels book a yes_node) (leaves_below levels book b no_node)
    ∙ ap₂ ◌++◌ (nodes-below levels book a yes_node)
    (nodes-below levels book b no_node ∙ sym (append-nil (leaves_under levels book.nodes no_node)))))

-- strictly ascending by node number
abbrev pub LeafBefore : Leaf → Leaf → Type 0
LeafBefore x y = x.node < y.node

-- a leaf of another node, put among ascending leaves
insert-rising : (l : Leaf) (leaves : List Leaf) → Rising LeafBefore leaves
    → ((x : Leaf) → IsIn x leaves → l.node ≢ x.node) → Rising LeafBefore (insert_leaf l leaves)
unfolding insert_leaf is_before
insert-rising l [] r new = (λ y h. absurd h, tt)
insert-rising l (first ∷ leaves) r new =
    go (is_before l first) (λ h. ltb→lt l.node first.node h) (λ h. nltb→le l.node first.node h)
    (insert-rising l leaves r.1 (λ x i. new x (inr i)))
  where
    least : l.node < first.node → (y : Leaf) → IsIn y (first ∷ leaves) → l.node < y.node
    least h y (inl e) = rw e h
    least h y (inr i) = omega (arith, r.0 y i)

    between : first.node ≤ l.node → (y : Leaf) → IsIn y (l ∷ leaves) → first.node < y.node
    between h y (inl e) = rw e (omega (arith, new first (inl refl)))
    between h y (inr i) = r.0 y i

    -- by whether the new leaf comes before the first
    go : (b : Bool) → (T b → l.node < first.node) → (T (not b) → first.node ≤ l.node)
        → Rising LeafBefore (insert_leaf l leaves)
        → Rising LeafBefore (if b then l ∷ first ∷ leaves else first ∷ insert_leaf l leaves)
    go true less more rest = (least (less tt), r)
    go false less more rest = (λ y h. between (more tt) y (of-insert y l leaves h), rest)

pub ascending-rising : (leaves : List Leaf) → Distinct (leaf_nodes leaves) → Rising LeafBefore (ascending leaves)
unfolding ascending
ascending-rising [] u = tt
ascending-rising (l ∷ leaves) u =
    insert-rising l (ascending leaves) (ascending-rising leaves u.1) new
  where
    new : (x : Leaf) → IsIn x (ascending leaves) → l.node ≢ x.node
    new x h e =
        u.0 (subst (λ (n : ℕ). IsIn n (leaf_nodes leaves)) (sym e)
        (in_map (λ k. k.node) x leaves (of-ascending x leaves h)))

pub leaves-ascend : (book : Book) → Forward book.nodes → ChildOnce book.nodes → (phone state : ℕ)
    → Rising LeafBefore (leaves_of book phone state)
unfolding leaves_of
leaves-ascend book forward once phone state =
    let top : Carrier = top_of book phone in
    let levels : ℕ = length book.nodes in
    let root : ℕ = root_of book phone state in
    ascending-rising (leaves_below levels book top root)
    (subst Distinct (sym (nodes-below levels book top root))
    (leaves-once book.nodes forward once levels root))

-- ---- combinations

abbrev pub key : Combination → List ℕ
key c = c.phone ∷ c.leaves

abbrev CombinationBefore : Combination → Combination → Type 0
CombinationBefore a b = T (precedes (key a) (key b))

-- the key of a combination begins with the phone and the leaves taken so far
choose-key : (phone : ℕ) (leaves : List ℕ) (m : Carrier) (trees : List (List Leaf)) (c : Combination)
    → IsIn c (choose phone leaves m trees) → (rest : List ℕ) × (key c ≡ (phone ∷ leaves) ++ rest)
unfolding choose
choose-key phone leaves m [] c h =
    ([], ap key (of_one _ (holds_some m) c h).1 ∙ sym (append-nil (phone ∷ leaves)))
choose-key phone leaves m (tree ∷ trees) c h =
    let (l, i, j) = of-concat_map _ c tree h in
    let (rest, e) = choose-key phone (leaves ++ (l.node ∷ [])) (meet_of m l.carried) trees c j in
    (l.node ∷ rest, e ∙ append_assoc (phone ∷ leaves) (l.node ∷ []) rest)

choose-key-more : (phone : ℕ) (leaves : List ℕ) (x : ℕ) (m : Carrier) (trees : List (List Leaf))
    → (c : Combination) → IsIn c (choose phone (leaves ++ (x ∷ [])) m trees)
    → (rest : List ℕ) × (key c ≡ (phone ∷ leaves) ++ (x ∷ rest))
choose-key-more phone leaves x m trees c h =
    let (rest, e) = choose-key phone (leaves ++ (x ∷ [])) m trees c h in
    (rest, e ∙ append_assoc (phone ∷ leaves) (x ∷ []) rest)

choose-rising : (phone : ℕ) (leaves : List ℕ) (m : Carrier) (trees : List (List Leaf))
    → ((tree : List Leaf) → IsIn tree trees → Rising LeafBefore tree)
    → Rising CombinationBefore (choose phone leaves m trees)
unfolding choose
choose-rising phone leaves m [] up = go (holds_some m)
  where
    go : (b : Bool) → Rising CombinationBefore
        (if b then record { phone = phone; leaves = leaves; carried = m } ∷ [] else [])
    go true = (λ y h. absurd h, tt)
    go false = tt
choose-rising phone leaves m (tree ∷ trees) up =
    rising-concat_map LeafBefore CombinationBefore taking tree (up tree (inl refl))
    (λ l i. choose-rising phone (leaves ++ (l.node ∷ [])) (meet_of m l.carried) trees (λ t j. up t (inr j)))
    across
  where
    taking : Leaf → List Combination
    taking l = choose phone (leaves ++ (l.node ∷ [])) (meet_of m l.carried) trees

    across : (x y : Leaf) (a b : Combination) → LeafBefore x y → IsIn a (taking x) → IsIn b (taking y)
        → CombinationBefore a b
    across x y a b h i j =
        let (k, e) = choose-key-more phone leaves x.node (meet_of m x.carried) trees a i in
        let (l, q) = choose-key-more phone leaves y.node (meet_of m y.carried) trees b j in
        rw (e, q)
        (precedes-after (phone ∷ leaves) (x.node ∷ k) (y.node ∷ l)
        (precedes-first x.node y.node k l h))

-- of one phone
phone-rising : (book : Book) → Forward book.nodes → ChildOnce book.nodes → (phone : ℕ)
    → Rising CombinationBefore (combinations_of book phone)
unfolding combinations_of
phone-rising book forward once phone =
    choose-rising phone [] (top_of book phone) trees up
  where
    trees : List (List Leaf)
    trees = map (λ state. leaves_of book phone state) (up_from 1 book.states)

    up : (tree : List Leaf) → IsIn tree trees → Rising LeafBefore tree
    up tree h =
        let (state, i, e) = of_map (λ state. leaves_of book phone state) tree (up_from 1 book.states) h in
        subst (Rising LeafBefore) (sym e) (leaves-ascend book forward once phone state)

-- of a lesser phone and a greater
phones-apart : (book : Book) (p q : ℕ) (a b : Combination) → p < q → IsIn a (combinations_of book p)
    → IsIn b (combinations_of book q) → CombinationBefore a b
unfolding combinations_of
phones-apart book p q a b h i j =
    let (k, e) = choose-key p [] _ _ a i in
    let (l, f) = choose-key q [] _ _ b j in
    rw (e, f) (precedes-first p q k l h)

combinations-rising : (book : Book) → Forward book.nodes → ChildOnce book.nodes
    → Rising CombinationBefore (combinations book)
unfolding combinations
combinations-rising book forward once =
    rising-concat_map ◌<◌ CombinationBefore (λ phone. combinations_of book phone) (up_from 1 book.phones)
    (rising-up_from 1 book.phones) (λ phone i. phone-rising book forward once phone) (phones-apart book)

abbrev pub key_at : Book → (number : ℕ) → List ℕ
key_at book number = key (get_or (combinations book) number no_combination)

combinations-ascend : (book : Book) → Forward book.nodes → ChildOnce book.nodes
    → (i j : ℕ) → i < j → j < length (combinations book) → T (precedes (key_at book i) (key_at book j))
combinations-ascend book forward once =
    rising-at CombinationBefore (combinations book) no_combination (combinations-rising book forward once)

-- a key has one number
pub key-injective : (book : Book) → Forward book.nodes → ChildOnce book.nodes
    → (i j : ℕ) → i < length (combinations book) → j < length (combinations book)
    → key_at book i ≡ key_at book j → i ≡ j
key-injective book forward once i j h k e = omega (arith, never i j k e, never j i h (sym e))
  where
    never : (a b : ℕ) → b < length (combinations book) → key_at book a ≡ key_at book b → a < b → ⊥
    never a b l q less =
        precedes-irreflexive (key_at book b)
        (subst (λ x. T (precedes x (key_at book b))) q (combinations-ascend book forward once a b less l))

-- so it is for every accepted book; the build's tables hold that book (`accepted-book` in laws/books/Books)
pub accepted-ascend : (lent : Lent) (text : List ℕ) (lines : List BookLine)
    → read_book lent text ≡ answered lines
    → (i j : ℕ) → i < j → j < length (combinations (book_of lines))
    → T (precedes (key_at (book_of lines) i) (key_at (book_of lines) j))
unfolding book_of book_in contents_of
accepted-ascend lent text lines e =
    let forward = (accepted-sound lent text lines e).forward in
    combinations-ascend (book_of lines) forward
    (child-once (nodes_of lines) (root_names (roots_of lines)) forward
    (accepted-orderly lent text lines e).named-once)
