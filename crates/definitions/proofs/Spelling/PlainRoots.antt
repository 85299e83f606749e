-- The roots of trees numbered anew: where a book has a root they are nodes, where it has none there is none. So a
-- phone's roots are all there or left out all together, as the book's are.
use Rattle.std.specs.Prelude.{◌≡◌, ◌≢◌, not, T, eqb, length}
use Rattle.std.proofs.Math.Path.{refl}
use Rattle.std.proofs.Common.{ap, ap₂, ◌∙◌, subst, sym, inl, inr, ⊎_elim, div-add-mod', div-lt_iff_lt-mul, mod-lt, arith, eqb-true}
use mathlib.Core.List.{List, [], ◌∷◌, map}
use Prim.Native.Nat.{ℕ, zero, suc, ◌+◌, ◌-◌, ◌*◌, ◌/◌, ◌%◌, ◌≤◌, ◌<◌}
use Rattle.definitions.specs.declared.Header.{Header}
use Rattle.definitions.specs.Lists.{◌!◌, sum_of, IsIn}
use Rattle.definitions.specs.BookLines.{TreeNode, root_count, root_place, no_root}
use Rattle.definitions.specs.ForeignTables.{roots_known}
use Rattle.definitions.specs.PlainForm.{tree_at, tree_for, size_of, roots_from, trees_there}
use Rattle.definitions.proofs.Laws.Lists.Tests.{by-test}
use Rattle.definitions.proofs.Laws.Lists.Members.{place_of}
use Rattle.definitions.proofs.Laws.Lists.Selected.{of-select}
use Rattle.definitions.proofs.Laws.Books.PhoneRoots.{roots-parts}
use Rattle.definitions.proofs.Spelling.TreeShapes.{some-node}
use Rattle.definitions.proofs.Spelling.PlainTrees.{sizes}
use Rattle.definitions.proofs.Spelling.TreesThere.{given}

-- a word that is a root is a node
pub given-listed : (header : Header) (plains roots : List ℕ) → 1 ≤ header.states
    → root_count header ≡ length roots → T (roots_known header plains roots)
    → (root : ℕ) → IsIn root (given roots) → root < header.nodes
unfolding root_count
given-listed header plains roots some_state whole known root i =
    let (listed, there) = of-select (λ root. not (eqb root no_root)) root roots i in
    let (at, within, e) = place_of root roots 0 listed in
    let phone : at / header.states < header.phones =
    (div-lt_iff_lt-mul some_state).1 (omega (arith, whole, within)) in
    let place : root_place header.states (at / header.states + 1) (at % header.states + 1) ≡ at =
    ap₂ (λ (q r : ℕ). q * header.states + r) {x = at / header.states + 1 - 1} {y = at / header.states}
    {u = at % header.states + 1 - 1} {v = at % header.states} (omega arith) (omega arith)
    ∙ div-add-mod' at header.states in
    let word : roots ! root_place header.states (at / header.states + 1) (at % header.states + 1) ≡ root =
    ap (λ (n : ℕ). roots ! n) place ∙ e in
    let state = mod-lt at some_state in
    ⊎_elim
    (λ all. subst (λ n. n < header.nodes) word
    (all (at % header.states + 1) (omega arith) (omega (arith, state))))
    (λ (edge, none). absurd (rw (sym word ∙ none (at % header.states + 1) (omega arith) (omega (arith, state)))
    at there))
    ((roots-parts header plains roots).0 known (at / header.states + 1) (omega arith) (omega (arith, phone)))

module _ (nodes : List TreeNode) (classes : List ℕ) where
  -- the new roots for these, and how many nodes stand below them
  abbrev renewed : (at : ℕ) → (roots : List ℕ) → List ℕ
  renewed at roots = roots_from at (map (tree_for nodes classes) roots)

  abbrev many : (roots : List ℕ) → ℕ
  many roots = sizes (trees_there (map (tree_for nodes classes) roots))

  -- beyond the list stands root 0, which is a node too
  new-root : (at bound : ℕ) (roots : List ℕ) (i : ℕ) → 0 < bound → at + many roots ≤ bound
      → roots ! i ≢ no_root → renewed at roots ! i < bound
  unfolding roots_from trees_there sum_of
  new-root at bound [] i some-bound room there = some-bound
  new-root at bound (root ∷ roots) zero some-bound room there =
      by-test (eqb root no_root) (λ e. absurd (there (eqb-true root no_root e)))
      (λ e. rw e (omega (arith, some-node (tree_at nodes classes root), rw e at room)))
  new-root at bound (root ∷ roots) (suc i) some-bound room there =
      by-test (eqb root no_root)
      (λ e. rw e (new-root at bound roots i some-bound (rw e at room) there))
      (λ e.
      let next : ℕ = at + size_of (tree_at nodes classes root) in
      rw e (new-root next bound roots i some-bound (omega (arith, rw e at room)) there))

  no-new-root : (at : ℕ) (roots : List ℕ) (i : ℕ) → roots ! i ≡ no_root → renewed at roots ! i ≡ no_root
  unfolding roots_from
  no-new-root at [] i e = absurd (omega (arith, e))
  no-new-root at (root ∷ roots) zero e = rw e refl
  no-new-root at (root ∷ roots) (suc i) e =
      by-test (eqb root no_root) (λ q. rw q (no-new-root at roots i e))
      (λ q. rw q (no-new-root (at + size_of (tree_at nodes classes root)) roots i e))

  -- so what was known of the roots is known of the new ones
  pub roots-again : (header plain : Header) (plains roots : List ℕ) → header.nodes ≤ no_root
      → 0 < plain.nodes → many roots ≤ plain.nodes → plain.states ≡ header.states
      → plain.phones ≡ header.phones → T (roots_known header plains roots)
      → T (roots_known plain plains (renewed 0 roots))
  roots-again header plain plains roots few some-plain room states phones known =
      (roots-parts plain plains (renewed 0 roots)).1 (λ phone low high.
      let place : (state : ℕ) → ℕ = λ state. root_place plain.states phone state in
      let same : (state : ℕ) → root_place header.states phone state ≡ place state =
      λ state. ap (λ (n : ℕ). root_place n phone state) (sym states) in
      ⊎_elim
      (λ all. inl (λ state s S.
      let old : roots ! place state < header.nodes =
      subst (λ n. roots ! n < header.nodes) (same state) (all state s (omega (arith, states, S))) in
      new-root 0 plain.nodes roots (place state) some-plain (omega (arith, room))
      (λ e. omega (arith, e, old, few))))
      (λ (edge, none). inr (
        edge,
        λ state s S.
            no-new-root 0 roots (place state)
            (ap (λ (n : ℕ). roots ! n) (sym (same state)) ∙ none state s (omega (arith, states, S))),
      ))
      ((roots-parts header plains roots).0 known phone low (omega (arith, high, phones))))
