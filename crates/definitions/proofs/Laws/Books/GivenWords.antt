-- Laws about the words that B and R lines give: one more line puts one word, where none was given before. So the
-- words of the table of roots name the nodes that the R lines name, for what is left out is no node.
use Rattle.std.specs.Prelude.{◌≡◌, ◌≢◌, false, ◌&&◌, T, length, set, replicate}
use Rattle.std.proofs.Math.Path.{refl, sym, ap}
use Rattle.std.proofs.Common.{ap₂, ◌∙◌, div-add-mod', eqb→eq, ne_eqb}
use mathlib.Core.List.{List, [], ◌∷◌, ◌++◌}
use Rattle.std.proofs.Math.Bool.{Bool}
use Rattle.std.proofs.Math.Option.{none}
use Prim.Native.Nat.{ℕ, ◌+◌, ◌-◌, ◌*◌, ◌/◌, ◌%◌, ◌≤◌, ◌<◌}
use native.Mathlib.Omega.{arith}
use Rattle.std.proofs.Math.Dec.{eqb}
use Rattle.definitions.specs.declared.Header.{Header}
use Rattle.definitions.specs.Lists.{◌!◌, first_where, map_option, occurrences, IsIn}
use Rattle.definitions.specs.BookLines.{Root, Boundary, root_count, root_place, next_place, root_for, root_given}
use Rattle.definitions.specs.BookLines.{root_words, root_names, no_root, plain_for, plain_given, plain_words}
use Rattle.definitions.specs.BookReading.{left_out}
use Rattle.definitions.proofs.Laws.Lists.Tests.{T_and, eq→eqb, by-test}
use Rattle.definitions.proofs.Laws.Lists.Lists.{map-up_from-length, map-up_from-at}
use Rattle.definitions.proofs.Laws.Lists.Counting.{up_from-set, up_from-same}
use Rattle.definitions.proofs.Laws.Lists.FirstWhere.{none_first, first-last, first-other}
use Rattle.definitions.proofs.Laws.Lists.Occurrences.{occurrences-append, occurrences-set, occurrences-other}
use Rattle.definitions.proofs.Laws.Books.LeftOut.{Spot, spot-phone, spot-state, Rooted, left-reaches, spot-below}

-- ---- the plain phones

-- a phone that no B line has named
abbrev pub Unnamed : List Boundary → (phone : ℕ) → Type 0
Unnamed boundaries phone = (b : Boundary) → IsIn b boundaries → b.phone ≡ phone → ⊥

module _ (header : Header) (boundaries : List Boundary) (b : Boundary) (new : Unnamed boundaries b.phone)
    (low : 1 ≤ b.phone) (high : b.phone ≤ header.phones)
  where
    abbrev named : List Boundary
    named = boundaries ++ (b ∷ [])

    own-plain : plain_given named b.phone ≡ b.plain
    unfolding plain_given plain_for map_option
    own-plain =
        let own : Boundary → Bool = λ x. eqb x.phone b.phone in
        let before = none_first own boundaries (λ x i t. new x i (eqb→eq x.phone b.phone t)) in
        let first = first-last own boundaries b before (eq→eqb b.phone b.phone refl) in
        rw (plain_given, plain_for, first)

    other-plain : (phone : ℕ) → phone ≢ b.phone → plain_given boundaries phone ≡ plain_given named phone
    unfolding plain_given plain_for map_option
    other-plain phone other =
        let first = first-other (λ x. eqb x.phone phone) boundaries b
        (ne_eqb b.phone phone (λ e. other (sym e))) in
        rw (plain_given, plain_for, first)

    pub plain-words-more : set (plain_words header boundaries) (b.phone - 1) b.plain ≡ plain_words header named
    unfolding plain_words
    plain-words-more =
        let at : 1 + (b.phone - 1) ≡ b.phone = omega (arith, low) in
        let word : plain_given named (1 + (b.phone - 1)) ≡ b.plain = ap (plain_given named) at ∙ own-plain in
        ap (set (plain_words header boundaries) (b.phone - 1)) (sym word)
        ∙ up_from-set (plain_given boundaries) (plain_given named) 1 header.phones (b.phone - 1)
        (omega (arith, low, high)) (λ k other. other-plain k (λ e. other (e ∙ sym at)))

-- ---- the roots

-- before the first R line no root is given
pub root-words-none : (header : Header) → root_words header [] ≡ replicate (root_count header) no_root
unfolding root_words root_given root_for map_option first_where
root-words-none header = up_from-same _ no_root 0 (root_count header) (λ k. refl)

pub root-words-length : (header : Header) (roots : List Root) → length (root_words header roots) ≡ root_count header
unfolding root_words
root-words-length header roots = map-up_from-length _ 0 (root_count header)

module _ (header : Header) {edge : ℕ → Bool} {roots : List Root} (k : Rooted header.states edge roots) (r : Root)
    (s : Spot header.states r.phone r.state) (high : r.phone ≤ header.phones)
    (t : T (left_out edge header.states (next_place header.states roots)
    (root_place header.states r.phone r.state)))
  where
    abbrev states : ℕ
    states = header.states

    abbrev place : ℕ
    place = root_place states r.phone r.state

    abbrev rooted : List Root
    rooted = roots ++ (r ∷ [])

    pub place-within : place < root_count header
    unfolding root_count
    place-within = spot-below s high

    abbrev is_of : (phone state : ℕ) → Root → Bool
    is_of phone state x = eqb x.phone phone && eqb x.state state

    -- its root was not given before
    not-before : first_where (is_of r.phone r.state) roots ≡ none
    not-before = none_first (is_of r.phone r.state) roots (λ x i h.
        let (p, q) = (T_and (eqb x.phone r.phone) (eqb x.state r.state)).0 h in
        let same : root_place states x.phone x.state ≡ place =
        ap₂ (root_place states) (eqb→eq _ _ p) (eqb→eq _ _ q) in
        omega (arith, same, (k.spots x i).1, left-reaches states edge _ place t))

    own_root : root_given rooted r.phone r.state ≡ r.node
    unfolding root_given root_for map_option
    own_root =
        let own = (T_and (eqb r.phone r.phone) (eqb r.state r.state)).1
        (eq→eqb r.phone r.phone refl, eq→eqb r.state r.state refl) in
        let first = first-last (is_of r.phone r.state) roots r not-before own in
        rw (root_given, root_for, first)

    absent-root : root_given roots r.phone r.state ≡ no_root
    unfolding root_given root_for map_option
    absent-root = rw (root_given, root_for, not-before)

    -- its phone and state by its place, and another place has others
    abbrev phone_at : (place : ℕ) → ℕ
    phone_at place = place / states + 1

    abbrev state_at : (place : ℕ) → ℕ
    state_at place = place % states + 1

    at_place : (f : (phone state : ℕ) → ℕ) → f (phone_at place) (state_at place) ≡ f r.phone r.state
    at_place f = ap₂ f (omega (arith, spot-phone s, s.phone_low)) (omega (arith, spot-state s, s.state_low))

    other_place : (n : ℕ) → n ≢ place → is_of (phone_at n) (state_at n) r ≡ false
    other_place n other =
        by-test (is_of (phone_at n) (state_at n) r)
        (λ e.
        let (p, q) = (T_and (eqb r.phone (phone_at n)) (eqb r.state (state_at n))).0 (rw e tt) in
        let phone : r.phone - 1 ≡ n / states = omega (arith, eqb→eq r.phone (phone_at n) p) in
        let state : r.state - 1 ≡ n % states = omega (arith, eqb→eq r.state (state_at n) q) in
        let same : place ≡ n = ap₂ (λ (a b : ℕ). a * states + b) phone state ∙ div-add-mod' n states in
        absurd (other (sym same)))
        (λ e. e)

    other-root : (n : ℕ) → n ≢ place
        → root_given roots (phone_at n) (state_at n) ≡ root_given rooted (phone_at n) (state_at n)
    unfolding root_given root_for map_option
    other-root n other =
        let first = first-other (is_of (phone_at n) (state_at n)) roots r (other_place n other) in
        rw (root_given, root_for, first)

    pub root-words-more : set (root_words header roots) place r.node ≡ root_words header rooted
    unfolding root_words
    root-words-more =
        let given : List Root → ℕ → ℕ = λ l n. root_given l (phone_at n) (state_at n) in
        let at : 0 + place ≡ place = omega arith in
        let word : given rooted (0 + place) ≡ r.node = ap (given rooted) at ∙ at_place (root_given rooted) ∙ own_root in
        ap (set (root_words header roots) place) (sym word)
        ∙ up_from-set (given roots) (given rooted) 0 (root_count header) place place-within
        (λ n other. other-root n (λ e. other (e ∙ sym at)))

    word-before : root_words header roots ! place ≡ no_root
    unfolding root_words
    word-before =
        map-up_from-at _ 0 (root_count header) place place place-within (omega arith)
        ∙ at_place (root_given roots) ∙ absent-root

    -- so a node is named in the words as often as by the lines
    pub names_more : (x : ℕ) → x < no_root
        → occurrences x (root_words header roots) ≡ occurrences x (root_names roots)
        → occurrences x (root_words header rooted) ≡ occurrences x (root_names roots ++ (r.node ∷ []))
    names_more x node same =
        ap (occurrences x) (sym root-words-more)
        ∙ occurrences-set x (root_words header roots) place r.node
        (omega (arith, place-within, root-words-length header roots))
        (ap (eqb x) word-before ∙ ne_eqb x no_root (λ e. omega (arith, e, node)))
        ∙ omega (arith, same, occurrences-append x (root_names roots) (r.node ∷ []))

pub names-none : (header : Header) (x : ℕ) → x < no_root → occurrences x (root_words header []) ≡ 0
names-none header x node =
    ap (occurrences x) (root-words-none header)
    ∙ occurrences-other x no_root (root_count header) (ne_eqb x no_root (λ e. omega (arith, e, node)))
