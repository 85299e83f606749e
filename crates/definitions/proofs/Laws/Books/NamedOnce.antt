-- Laws about trees whose nodes are each named once: a node has one parent, no leaf stands twice below one.
-- Of two nodes above a third, one is above the other, by the one parent of each; neither child of a question
-- is above the other, so no node is below both. The order of leaves and combinations rests on this.
use Rattle.std.specs.Prelude.{◌≡◌, ◌⊎◌, List, [], ◌∷◌, ◌++◌, Bool, true, false, not, T, eqb, length}
use Rattle.std.proofs.Math.Path.{refl, sym}
use Rattle.std.proofs.Common.{ap, ◌∙◌, subst, inl, inr, arith, eqb→eq}
use Prim.Native.Nat.{ℕ, zero, suc, ◌+◌, ◌≤◌, ◌<◌}
use Rattle.definitions.specs.BookReading.{ChildOnce, orphans}
use Rattle.definitions.specs.Lists.{concat_map, up_from, occurrences, IsIn, Distinct}
use Rattle.definitions.specs.BookLines.{TreeNode, question, leaf, children_of, no_root}
use Rattle.definitions.specs.Lookup.{node_at}
use Rattle.definitions.proofs.Laws.Lists.Members.{in_left, in_right, of-concat_map, place_of, in-up_from}
use Rattle.definitions.proofs.Laws.Lists.Members.{Distinct-concat_map, Distinct-left, Distinct-right}
use Rattle.definitions.proofs.Laws.Lists.Members.{distinct_apart, of-up_from}
use Rattle.definitions.proofs.Laws.Lists.Selected.{in-select, select-same}
use Rattle.definitions.proofs.Laws.Lists.Occurrences.{occurrences-left, Distinct-once, occurrences-append}
use Rattle.definitions.proofs.Laws.Trees.Walks.{Later, Forward}

-- ---- names that are the same

-- lists that name each node as often leave the same orphans; 4096 is no node
pub orphans-same : (nodes : List TreeNode) (a b : List ℕ) → length nodes ≤ no_root
    → ((x : ℕ) → x < no_root → occurrences x a ≡ occurrences x b) → orphans nodes a ≡ orphans nodes b
unfolding orphans
orphans-same nodes a b few same =
    let children : List ℕ = concat_map children_of nodes in
    let test : List ℕ → ℕ → Bool = λ roots node. not (eqb (occurrences node (children ++ roots)) 1) in
    select-same (test a) (test b) (up_from 0 (length nodes)) (λ node i.
    let (low, high) = of-up_from 0 (length nodes) node i in
    ap (λ (n : ℕ). not (eqb n 1)) (
    occurrences-append node children a
    ∙ ap (λ (n : ℕ). occurrences node children + n) (same node (omega (arith, high, few)))
    ∙ sym (occurrences-append node children b)))

-- ---- a node has one parent

abbrev IsChild : List TreeNode → (node child : ℕ) → Type 0
IsChild nodes node child = IsIn child (children_of (node_at nodes node))

child-later : (nodes : List TreeNode) → Forward nodes → (u d : ℕ) → IsChild nodes u d → Later nodes u d
unfolding children_of
child-later nodes forward u d h = at (node_at nodes u) refl h
  where
    at : (x : TreeNode) → node_at nodes u ≡ x → IsIn d (children_of x) → Later nodes u d
    at (leaf model) e i = absurd i
    at (question asked yes_node no_node) e (inl i) =
        subst (Later nodes u) (sym i) (forward u asked yes_node no_node e).0
    at (question asked yes_node no_node) e (inr (inl i)) =
        subst (Later nodes u) (sym i) (forward u asked yes_node no_node e).1
    at (question asked yes_node no_node) e (inr (inr i)) = absurd i

-- a node of the list that is no orphan is named once
pub named-once : (nodes : List TreeNode) (roots : List ℕ) → orphans nodes roots ≡ []
    → (node : ℕ) → node < length nodes → occurrences node (concat_map children_of nodes ++ roots) ≡ 1
unfolding orphans
named-once nodes roots none node h = eqb→eq times 1 (one (eqb times 1) missing)
  where
    times : ℕ
    times = occurrences node (concat_map children_of nodes ++ roots)

    missing : T (not (eqb times 1)) → ⊥
    missing t =
        subst (IsIn node) none
        (in-select (λ n. not (eqb (occurrences n (concat_map children_of nodes ++ roots)) 1)) node
        (up_from 0 (length nodes)) (in-up_from 0 (length nodes) node (omega arith) (omega arith)) t)

    one : (b : Bool) → (T (not b) → ⊥) → T b
    one true k = tt
    one false k = k tt

-- each child is a node of the list
pub child-listed : (nodes : List TreeNode) → Forward nodes → (x : ℕ) → IsIn x (concat_map children_of nodes)
    → x < length nodes
child-listed nodes forward x h =
    let (n, i, c) = of-concat_map children_of x nodes h in
    let (u, k, e) = place_of n nodes (leaf 0) i in
    (child-later nodes forward u x (rw e c)).listed

pub child-once : (nodes : List TreeNode) (roots : List ℕ) → Forward nodes → orphans nodes roots ≡ []
    → ChildOnce nodes
child-once nodes roots forward none = Distinct-once (concat_map children_of nodes) once
  where
    once : (x : ℕ) → IsIn x (concat_map children_of nodes) → occurrences x (concat_map children_of nodes) ≤ 1
    once x h =
        omega (
          arith,
          named-once nodes roots none x (child-listed nodes forward x h),
          occurrences-left x (concat_map children_of nodes) roots,
        )

children-Distinct : (nodes : List TreeNode) → ChildOnce nodes → (u : ℕ)
    → Distinct (children_of (node_at nodes u))
unfolding concat_map children_of
children-Distinct [] once u = tt
children-Distinct (first ∷ nodes) once zero =
    Distinct-left (children_of first) (concat_map children_of nodes) once
children-Distinct (first ∷ nodes) once (suc u) =
    children-Distinct nodes (Distinct-right (children_of first) (concat_map children_of nodes) once) u

child-named : (nodes : List TreeNode) (u x : ℕ) → IsChild nodes u x → IsIn x (concat_map children_of nodes)
unfolding concat_map children_of
child-named [] u x h = absurd h
child-named (first ∷ nodes) zero x h = in_left x (children_of first) (concat_map children_of nodes) h
child-named (first ∷ nodes) (suc u) x h =
    in_right x (children_of first) (concat_map children_of nodes) (child-named nodes u x h)

one_parent : (nodes : List TreeNode) → ChildOnce nodes → (u v x : ℕ)
    → IsChild nodes u x → IsChild nodes v x → u ≡ v
unfolding concat_map children_of
one_parent [] once u v x h k = absurd h
one_parent (first ∷ nodes) once zero zero x h k = refl
one_parent (first ∷ nodes) once zero (suc v) x h k =
    absurd (distinct_apart x (children_of first) _ once h (child-named nodes v x k))
one_parent (first ∷ nodes) once (suc u) zero x h k =
    absurd (distinct_apart x (children_of first) _ once k (child-named nodes u x h))
one_parent (first ∷ nodes) once (suc u) (suc v) x h k =
    ap suc (one_parent nodes (Distinct-right (children_of first) _ once) u v x h k)

-- ---- the leaves below a node

-- the leaves by their nodes: at a leaf itself, at a question those of its children
abbrev leaves_from : (further : ℕ → List ℕ) → (node : ℕ) → TreeNode → List ℕ
leaves_from further node (question asked yes_node no_node) = concat_map further (yes_node ∷ no_node ∷ [])
leaves_from further node (leaf model) = node ∷ []

abbrev pub leaves_under : (levels : ℕ) → List TreeNode → (node : ℕ) → List ℕ
leaves_under zero nodes node = []
leaves_under (suc levels) nodes node = leaves_from (leaves_under levels nodes) node (node_at nodes node)

-- d is so many steps down from a
abbrev IsBelow : List TreeNode → (steps a d : ℕ) → Type 0
IsBelow nodes zero a d = a ≡ d
IsBelow nodes (suc steps) a d = (u : ℕ) × IsBelow nodes steps a u × IsChild nodes u d

module _ (nodes : List TreeNode) (forward : Forward nodes) (once : ChildOnce nodes) where
  -- one step more at the top
  below-child : (steps a child d : ℕ) → IsChild nodes a child → IsBelow nodes steps child d
      → IsBelow nodes (suc steps) a d
  below-child zero a child d h e = (a, refl, subst (IsChild nodes a) e h)
  below-child (suc steps) a child d h (u, b, k) = (u, below-child steps a child u h b, k)

  below-greater : (steps a d : ℕ) → IsBelow nodes steps a d → a ≤ d
  below-greater zero a d e = omega arith
  below-greater (suc steps) a d (u, b, h) =
      omega (arith, below-greater steps a u b, (child-later nodes forward u d h).greater)

  -- of two nodes that a third is below, one is below the other
  climb : (i j a b d : ℕ) → IsBelow nodes i a d → IsBelow nodes j b d
      → (k : ℕ) × (IsBelow nodes k a b ⊎ IsBelow nodes k b a)
  climb zero j a b d e h = (j, inr (subst (IsBelow nodes j b) (sym e) h))
  climb (suc i) zero a b d h e = (suc i, inl (subst (IsBelow nodes (suc i) a) (sym e) h))
  climb (suc i) (suc j) a b d (u, h, c) (v, k, e) =
      climb i j a b u h (subst (IsBelow nodes j b) (sym (one_parent nodes once u v d c e)) k)

  -- a child of a node is below no other child of it, so a node is below one child only
  below-sibling : (steps u x y : ℕ) → IsChild nodes u x → IsChild nodes u y → IsBelow nodes steps x y → x ≡ y
  below-sibling zero u x y h k e = e
  below-sibling (suc steps) u x y h k (v, b, c) =
      absurd
      (omega (
        arith,
        below-greater steps x v b,
        one_parent nodes once v u y c k,
        (child-later nodes forward u x h).greater,
      ))

  one-child : (i j u x y d : ℕ) → IsChild nodes u x → IsChild nodes u y
      → IsBelow nodes i x d → IsBelow nodes j y d → x ≡ y
  one-child i j u x y d h k b c = above (climb i j x y d b c)
    where
      above : (n : ℕ) × (IsBelow nodes n x y ⊎ IsBelow nodes n y x) → x ≡ y
      above (n, inl m) = below-sibling n u x y h k m
      above (n, inr m) = sym (below-sibling n u y x k h m)

  under-below : (levels node d : ℕ) → IsIn d (leaves_under levels nodes node)
      → (steps : ℕ) × IsBelow nodes steps node d
  unfolding children_of
  under-below zero node d h = absurd h
  under-below (suc levels) node d h = at (node_at nodes node) refl h (λ child i. under-below levels child d i)
    where
      at : (x : TreeNode) → node_at nodes node ≡ x → IsIn d (leaves_from (leaves_under levels nodes) node x)
          → ((child : ℕ) → IsIn d (leaves_under levels nodes child)
          → (steps : ℕ) × IsBelow nodes steps child d)
          → (steps : ℕ) × IsBelow nodes steps node d
      at (leaf model) e (inl q) further = (0, sym q)
      at (leaf model) e (inr i) further = absurd i
      at (question asked yes_node no_node) e i further =
          let (child, c, j) = of-concat_map (leaves_under levels nodes) d (yes_node ∷ no_node ∷ []) i in
          let (steps, b) = further child j in
          (suc steps, below-child steps node child d (rw e c) b)

  pub leaves-once : (levels node : ℕ) → Distinct (leaves_under levels nodes node)
  unfolding children_of
  leaves-once zero node = tt
  leaves-once (suc levels) node = at (node_at nodes node) refl (λ child. leaves-once levels child)
    where
      at : (x : TreeNode) → node_at nodes node ≡ x → ((child : ℕ) → Distinct (leaves_under levels nodes child))
          → Distinct (leaves_from (leaves_under levels nodes) node x)
      at (leaf model) e further = (λ h. h, tt)
      at (question asked yes_node no_node) e further =
          Distinct-concat_map (leaves_under levels nodes) (yes_node ∷ no_node ∷ [])
          (rw e at (children-Distinct nodes once node)) (λ child h. further child) shared
        where
          shared : (x y d : ℕ) → IsIn x (yes_node ∷ no_node ∷ []) → IsIn y (yes_node ∷ no_node ∷ [])
              → IsIn d (leaves_under levels nodes x) → IsIn d (leaves_under levels nodes y) → x ≡ y
          shared x y d h k l m =
              let (i, b) = under-below levels x d l in
              let (j, c) = under-below levels y d m in
              one-child i j node x y d (rw e h) (rw e k) b c
