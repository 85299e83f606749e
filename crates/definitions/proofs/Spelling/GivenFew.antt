-- The B and R lines that a table's words make are no more than the lines that gave these words. The idea: each word
-- that is given has a line of its phone, or of its phone and state, so as many phones or places have lines.
use Rattle.std.specs.Prelude.{◌≡◌, refl, ◌≢◌, List, [], ◌∷◌, map, not, ◌&&◌, length}
use Rattle.std.proofs.Common.{ap, ◌∙◌, arith, ne_eqb}
use Rattle.std.proofs.Math.Path.{ap₂, subst}
use Rattle.std.proofs.Math.Bool.{Bool}
use Rattle.std.proofs.Math.Option.{Option, none, some}
use Prim.Native.Nat.{ℕ, suc, ◌+◌, ◌-◌, ◌*◌, ◌/◌, ◌%◌, ◌≤◌, ◌<◌}
use Rattle.std.proofs.Math.Nat.{div-add-mod'}
use Rattle.std.proofs.Math.Dec.{eqb, eqb→eq}
use Rattle.std.proofs.lemmas.List.{length-map}
use Rattle.std.proofs.lemmas.Bool.{eqb-false}
use Rattle.definitions.specs.declared.Header.{Header}
use Rattle.definitions.specs.Lists.{at_least_one, select, map_option, up_from, sum_of, IsIn}
use Rattle.definitions.specs.BookLines.{Boundary, plain_for, plain_given, plain_words, Root, root_count, root_place}
use Rattle.definitions.specs.BookLines.{no_root, root_for, root_given, root_words}
use Rattle.definitions.specs.BookText.{boundaries_from, roots_listed}
use Rattle.definitions.specs.PlainForm.{Tree, size_of, roots_from, trees_there}
use Rattle.definitions.proofs.Laws.Lists.Tests.{T_and, by-test}
use Rattle.definitions.proofs.Laws.Lists.Members.{in_map}
use Rattle.definitions.proofs.Laws.Lists.Selected.{of-select}
use Rattle.definitions.proofs.Laws.Lists.Rising.{rising-Distinct, rising-up_from, rising-select}
use Rattle.definitions.proofs.Laws.Lists.FirstWhere.{first_some, first-none}
use Rattle.definitions.proofs.Laws.Lists.Fewer.{Distinct-few}
use Rattle.definitions.proofs.Spelling.TreeShapes.{some-node}
use Rattle.definitions.proofs.Spelling.PlainTrees.{sizes}
use Rattle.definitions.proofs.Spelling.TreesThere.{given}

-- ---- words that are given

select-map : {A B : Type 0} (test : B → Bool) (f : A → B) (l : List A)
    → length (select test (map f l)) ≡ length (select (λ x. test (f x)) l)
unfolding select
select-map test f [] = refl
select-map test f (x ∷ l) =
    let rest = select-map test f l in by-test (test (f x)) (λ e. rw e (ap suc rest)) (λ e. rw e rest)

-- where each number with a word has a key, the words are no more than the keys
words-few : (word : ℕ → ℕ) (absent from count : ℕ) (keys : List ℕ) → ((k : ℕ) → word k ≢ absent → IsIn k keys)
    → length (select (λ w. not (eqb w absent)) (map word (up_from from count))) ≤ length keys
words-few word absent from count keys key =
    let there : ℕ → Bool = λ k. not (eqb (word k) absent) in
    let own : List ℕ = select there (up_from from count) in
    let each : (k : ℕ) → IsIn k own → IsIn k keys =
    λ k i. by-test (eqb (word k) absent)
    (λ e. absurd (rw e at (of-select there k (up_from from count) i).1))
    (λ e. key k (eqb-false (word k) absent e)) in
    omega (
      arith,
      select-map (λ w. not (eqb w absent)) word (up_from from count),
      Distinct-few own keys
          (rising-Distinct own (rising-select ◌<◌ there (up_from from count) (rising-up_from from count))) each,
    )

-- ---- B lines

boundaries-many : (phone : ℕ) (plains : List ℕ)
    → length (boundaries_from phone plains) ≡ length (select (λ w. not (eqb w 0)) plains)
unfolding boundaries_from select
boundaries-many phone [] = refl
boundaries-many phone (plain ∷ plains) =
    let rest = boundaries-many (suc phone) plains in
    by-test (eqb plain 0) (λ e. rw e rest) (λ e. rw e (ap suc rest))

plain-key : (boundaries : List Boundary) (phone : ℕ) → plain_given boundaries phone ≢ 0
    → IsIn phone (map (λ b. b.phone) boundaries)
unfolding plain_given plain_for map_option
plain-key boundaries phone there =
    let own : Boundary → Bool = λ b. eqb b.phone phone in
    by-test (at_least_one own boundaries)
    (λ e.
    let (b, i, t, first) = first_some own boundaries (rw e tt) in
    subst (λ n. IsIn n (map (λ b. b.phone) boundaries)) (eqb→eq b.phone phone t)
    (in_map (λ b. b.phone) b boundaries i))
    (λ e. let first = first-none own boundaries (rw e tt) in absurd (there (rw (plain_given, plain_for, first))))

pub boundaries-few : (header : Header) (boundaries : List Boundary)
    → length (boundaries_from 1 (plain_words header boundaries)) ≤ length boundaries
unfolding plain_words
boundaries-few header boundaries =
    omega (
      arith,
      boundaries-many 1 (plain_words header boundaries),
      words-few (plain_given boundaries) 0 1 header.phones (map (λ b. b.phone) boundaries) (plain-key boundaries),
      length-map boundaries (λ b. b.phone),
    )

-- ---- R lines

pub listed-many : (states at : ℕ) (words : List ℕ) → length (roots_listed states at words) ≡ length (given words)
unfolding roots_listed select
listed-many states at [] = refl
listed-many states at (word ∷ words) =
    let rest = listed-many states (suc at) words in
    by-test (eqb word no_root) (λ e. rw e rest) (λ e. rw e (ap suc rest))

-- one for each tree that is there
pub new-many : (at : ℕ) (trees : List (Option Tree)) → at + sizes (trees_there trees) ≤ no_root
    → length (given (roots_from at trees)) ≡ length (trees_there trees)
unfolding roots_from trees_there select sum_of
new-many at [] room = refl
new-many at (none ∷ trees) room = new-many at trees room
new-many at (some t ∷ trees) room =
    let a-node = ne_eqb at no_root (λ e. omega (arith, e, some-node t)) in
    rw a-node (ap suc (new-many (at + size_of t) trees (omega arith)))

module _ (states : ℕ) (roots : List Root) where
  abbrev word_at : (place : ℕ) → ℕ
  word_at place = root_given roots (place / states + 1) (place % states + 1)

  abbrev places : List ℕ
  places = map (λ r. root_place states r.phone r.state) roots

  root-key : (place : ℕ) → word_at place ≢ no_root → IsIn place places
  unfolding root_given root_for map_option
  root-key place there =
      let phone : ℕ = place / states + 1 in
      let state : ℕ = place % states + 1 in
      let own : Root → Bool = λ r. eqb r.phone phone && eqb r.state state in
      by-test (at_least_one own roots)
      (λ e.
      let (r, i, t, first) = first_some own roots (rw e tt) in
      let (p, s) = (T_and (eqb r.phone phone) (eqb r.state state)).0 t in
      let whole : r.phone - 1 ≡ place / states = omega (arith, eqb→eq r.phone phone p) in
      let part : r.state - 1 ≡ place % states = omega (arith, eqb→eq r.state state s) in
      let same : root_place states r.phone r.state ≡ place =
      ap₂ (λ (a b : ℕ). a * states + b) whole part ∙ div-add-mod' place states in
      subst (λ n. IsIn n places) same (in_map (λ r. root_place states r.phone r.state) r roots i))
      (λ e. let first = first-none own roots (rw e tt) in absurd (there (rw (root_given, root_for, first))))

pub roots_few : (header : Header) (roots : List Root) → length (given (root_words header roots)) ≤ length roots
unfolding root_words
roots_few header roots =
    omega (
      arith,
      words-few (word_at header.states roots) no_root 0 (root_count header) (places header.states roots)
          (root-key header.states roots),
      length-map roots (λ r. root_place header.states r.phone r.state),
    )
