-- Laws about the roots that words list, place by place: each word that is a root is listed with the phone and state
-- of its place, so the words are found again, and a node is named as often. The laws about written books use them.
use Rattle.std.specs.Prelude.{◌≡◌, refl, ◌≢◌, List, [], ◌∷◌, ◌++◌, Bool, true, false, ◌&&◌, ℕ, zero, suc, ◌+◌, ◌*◌, ◌/◌, ◌%◌, ◌<◌, T, eqb, length}
use Rattle.std.proofs.Common.{sym, ap, ap₂, ◌∙◌, subst, inl, inr, div-add-mod', arith, eqb→eq, ne_eqb, eqb-true, ext_get_or}
use Rattle.std.proofs.Math.Dec.{eqb_refl}
use Rattle.std.proofs.lemmas.Bool.{eqb-false}
use Rattle.definitions.specs.Lists.{if◌then◌else◌, ◌!◌, at_least_one, IsIn, map_option, occurrences}
use Rattle.definitions.specs.BookLines.{Root, no_root, root_for, root_given, root_words, root_names, root_count}
use Rattle.definitions.specs.BookText.{roots_listed}
use Rattle.definitions.specs.declared.Header.{Header}
use Rattle.definitions.proofs.Laws.Lists.Tests.{T_and, by-test}
use Rattle.definitions.proofs.Laws.Lists.Lists.{map-up_from-length, map-up_from-at}
use Rattle.definitions.proofs.Laws.Lists.FirstWhere.{first_some, first-none, in_some, not-both}

-- ---- one part after another

pub listed-parts : (states at : ℕ) (k l : List ℕ)
    → roots_listed states at (k ++ l) ≡ roots_listed states at k ++ roots_listed states (at + length k) l
unfolding roots_listed
listed-parts states at [] l = ap (λ (n : ℕ). roots_listed states n l) {x = at} {y = at + 0} (omega arith)
listed-parts states at (word ∷ k) l =
    go (eqb word no_root)
    (listed-parts states (suc at) k l
    ∙ ap (λ (n : ℕ). roots_listed states (suc at) k ++ roots_listed states n l) {x = suc at + length k}
    {y = at + suc (length k)} (omega arith))
  where
    own : Root
    own = record { phone = at / states + 1; state = at % states + 1; node = word }

    go : (b : Bool)
        → roots_listed states (suc at) (k ++ l)
        ≡ roots_listed states (suc at) k ++ roots_listed states (at + suc (length k)) l
        → (if b then roots_listed states (suc at) (k ++ l) else own ∷ roots_listed states (suc at) (k ++ l))
        ≡ (if b then roots_listed states (suc at) k else own ∷ roots_listed states (suc at) k)
        ++ roots_listed states (at + suc (length k)) l
    go true e = e
    go false e = ap (λ (rest : List Root). own ∷ rest) e

-- ---- which they are

-- a root of words that stand from place `at` on
pub record Listed (states at : ℕ) (words : List ℕ) (r : Root) : Type 0 where
  pub place : ℕ
  pub within : place < length words
  pub phone : r.phone ≡ (at + place) / states + 1
  pub state : r.state ≡ (at + place) % states + 1
  pub node : r.node ≡ words ! place
  pub given : words ! place ≢ no_root

later-listed : {states at word : ℕ} {words : List ℕ} {r : Root} → Listed states (suc at) words r
    → Listed states at (word ∷ words) r
later-listed {states} {at} l =
    let moved : suc at + l.place ≡ at + suc l.place = omega arith in
    record {
      place = suc l.place;
      within = omega (arith, l.within);
      phone = l.phone ∙ ap (λ (n : ℕ). n / states + 1) moved;
      state = l.state ∙ ap (λ (n : ℕ). n % states + 1) moved;
      node = l.node;
      given = l.given;
    }

pub of-listed : (states at : ℕ) (words : List ℕ) (r : Root) → IsIn r (roots_listed states at words)
    → Listed states at words r
unfolding roots_listed
of-listed states at [] r i = absurd i
of-listed states at (word ∷ words) r i =
    go (eqb word no_root) refl i (λ own. of-listed states (suc at) words r own)
  where
    own : Root
    own = record { phone = at / states + 1; state = at % states + 1; node = word }

    go : (b : Bool) → eqb word no_root ≡ b
        → IsIn r (if b then roots_listed states (suc at) words else own ∷ roots_listed states (suc at) words)
        → (IsIn r (roots_listed states (suc at) words) → Listed states (suc at) words r)
        → Listed states at (word ∷ words) r
    go true e i rest = later-listed (rest i)
    go false e (inl q) rest =
        let here : at ≡ at + 0 = omega arith in
        record {
          place = 0;
          within = omega arith;
          phone = ap (λ (x : Root). x.phone) q ∙ ap (λ (n : ℕ). n / states + 1) here;
          state = ap (λ (x : Root). x.state) q ∙ ap (λ (n : ℕ). n % states + 1) here;
          node = ap (λ (x : Root). x.node) q;
          given = eqb-false word no_root e;
        }
    go false e (inr i) rest = later-listed (rest i)

-- ---- the words again

-- one place has one phone and state
abbrev is_of : (states place : ℕ) → Root → Bool
is_of states place r = eqb r.phone (place / states + 1) && eqb r.state (place % states + 1)

of-place : (states a b : ℕ) → a / states + 1 ≡ b / states + 1 → a % states + 1 ≡ b % states + 1 → a ≡ b
of-place states a b p q =
    let phone : a / states ≡ b / states = omega (arith, p) in
    let state : a % states ≡ b % states = omega (arith, q) in
    sym (div-add-mod' a states) ∙ ap₂ (λ (m n : ℕ). m * states + n) phone state ∙ div-add-mod' b states

listed-place : (states at : ℕ) (words : List ℕ) (r : Root) (place : ℕ) → IsIn r (roots_listed states at words)
    → T (is_of states place r) → (l : Listed states at words r) × (at + l.place ≡ place)
listed-place states at words r place i t =
    let l = of-listed states at words r i in
    let (p, q) = (T_and (eqb r.phone (place / states + 1)) (eqb r.state (place % states + 1))).0 t in
    (l, of-place states (at + l.place) place (sym l.phone ∙ eqb→eq _ _ p) (sym l.state ∙ eqb→eq _ _ q))

-- a word that is a root is listed, at its place
listed_here : (states at : ℕ) (words : List ℕ) (i : ℕ) → i < length words → words ! i ≢ no_root
    → (r : Root) × IsIn r (roots_listed states at words) × T (is_of states (at + i) r)
unfolding roots_listed
listed_here states at [] i h n = absurd (omega arith)
listed_here states at (word ∷ words) zero h n =
    let own : Root = record { phone = at / states + 1; state = at % states + 1; node = word } in
    let here : at ≡ at + 0 = omega arith in (
      own,
      rw (ne_eqb word no_root n) (inl refl),
      subst (λ m. T (is_of states m own)) here ((T_and (eqb (at / states + 1) (at / states + 1))
          (eqb (at % states + 1) (at % states + 1))).1
          (eqb_refl (at / states + 1), eqb_refl (at % states + 1))),
    )
listed_here states at (word ∷ words) (suc i) h n =
    let (r, j, t) = listed_here states (suc at) words i (omega arith) n in
    let moved : suc at + i ≡ at + suc i = omega arith in
    (r, in-later (eqb word no_root) r j, subst (λ m. T (is_of states m r)) moved t)
  where
    own : Root
    own = record { phone = at / states + 1; state = at % states + 1; node = word }

    in-later : (b : Bool) (r : Root) → IsIn r (roots_listed states (suc at) words)
        → IsIn r (if b then roots_listed states (suc at) words else own ∷ roots_listed states (suc at) words)
    in-later true r i = i
    in-later false r i = inr i

pub word-again : (states at : ℕ) (words : List ℕ) (i : ℕ) → i < length words
    → root_given (roots_listed states at words) ((at + i) / states + 1) ((at + i) % states + 1) ≡ words ! i
unfolding root_given root_for map_option
word-again states at words i h = by-test (at_least_one own roots) there none-there
  where
    roots : List Root
    roots = roots_listed states at words

    own : Root → Bool
    own r = is_of states (at + i) r

    at_i : (n : ℕ) → at + n ≡ at + i → words ! n ≡ words ! i
    at_i n e = ap (λ (k : ℕ). words ! k) {x = n} {y = i} (omega (arith, e))

    there : at_least_one own roots ≡ true
        → root_given roots ((at + i) / states + 1) ((at + i) % states + 1) ≡ words ! i
    there e =
        let (r, j, t, first) = first_some own roots (rw e tt) in
        let (l, same) = listed-place states at words r (at + i) j t in
        rw (root_given, root_for, first) (l.node ∙ at_i l.place same)

    none-there : at_least_one own roots ≡ false
        → root_given roots ((at + i) / states + 1) ((at + i) % states + 1) ≡ words ! i
    none-there e =
        let first = first-none own roots (rw e tt) in
        rw (root_given, root_for, first)
        (by-test (eqb (words ! i) no_root) (λ q. sym (eqb-true (words ! i) no_root q)) (λ q.
        let (r, j, t) = listed_here states at words i h (eqb-false (words ! i) no_root q) in
        absurd (not-both (at_least_one own roots) (in_some own roots r j t) (rw e tt))))

pub roots-again : (header : Header) (words : List ℕ) → length words ≡ root_count header
    → root_words header (roots_listed header.states 0 words) ≡ words
unfolding root_words
roots-again header words sized =
    ext_get_or 0 (root_words header (roots_listed states 0 words)) words
    (map-up_from-length given 0 (root_count header) ∙ sym sized) (λ i h.
    let below : i < root_count header = omega (arith, h, map-up_from-length given 0 (root_count header)) in
    map-up_from-at given 0 (root_count header) i (0 + i) below refl
    ∙ word-again states 0 words i (omega (arith, below, sized)))
  where
    states : ℕ
    states = header.states

    given : (place : ℕ) → ℕ
    given place = root_given (roots_listed states 0 words) (place / states + 1) (place % states + 1)

-- ---- what they name

pub names-listed : (states at : ℕ) (words : List ℕ) (x : ℕ) → x < no_root
    → occurrences x (root_names (roots_listed states at words)) ≡ occurrences x words
unfolding roots_listed occurrences
names-listed states at [] x node = refl
names-listed states at (word ∷ words) x node =
    let rest = names-listed states (suc at) words x node in
    by-test (eqb word no_root)
    (λ e.
    let other = ne_eqb x word (λ q. omega (arith, q, eqb-true word no_root e, node)) in
    rw (e, other) rest)
    (λ e. rw e (by-test (eqb x word) (λ q. rw q (ap suc rest)) (λ q. rw q rest)))
