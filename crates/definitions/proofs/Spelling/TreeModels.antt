-- What a tree by itself gives to a context is what the walk from its root reaches, but for the leaf's number. So books
-- with the same trees, plain phones, half-width, states and phones give every phone sequence the same models after as
-- many questions, however their nodes are numbered.
use Rattle.std.specs.Prelude.{◌≡◌, Bool, true, T, get_or}
use Rattle.std.proofs.Math.Path.{refl, sym, ap, ap₂}
use Rattle.std.proofs.Common.{◌∙◌, arith}
use mathlib.Core.List.{List, map}
use Rattle.std.proofs.Math.Bool.{false}
use Rattle.std.proofs.Math.Option.{Option, none, some}
use Prim.Native.Nat.{ℕ, zero, suc, ◌+◌, ◌*◌, ◌≤◌, ◌<◌}
use Rattle.std.proofs.Math.Dec.{eqb}
use Rattle.std.proofs.Math.ListN.{length}
use borrow.Author.Tests.{ne_eqb}
use Rattle.definitions.specs.declared.Header.{Header}
use Rattle.definitions.specs.Lists.{if◌then◌else◌, ◌!◌, every, concat_map, up_from, sum_of, IsIn}
use Rattle.definitions.specs.BookLines.{TreeNode, Reached, at_leaf, past_question, root_count, root_place, no_root}
use Rattle.definitions.specs.BookLines.{is_phone}
use Rattle.definitions.specs.Tables.{Contents, tree_phone, roots_in_force, book_in, root_of}
use Rattle.definitions.specs.PhoneSets.{has}
use Rattle.definitions.specs.Lookup.{answers, walk, reached}
use Rattle.definitions.specs.TreesGive.{silences, contexts}
use Rattle.definitions.specs.Transcription.{reached_for, model_of, transcription, questions_at, question_sum}
use Rattle.definitions.specs.Transcription.{Transcribed, transcribed}
use Rattle.definitions.specs.PlainForm.{Question, Tree, asking, giving, tree_below, tree_at, tree_for}
use Rattle.definitions.specs.PlainForm.{trees_of}
use Rattle.definitions.proofs.Laws.Lists.Tests.{every-at}
use Rattle.definitions.proofs.Laws.Lists.Lists.{map_at}
use Rattle.definitions.proofs.Laws.Lists.Members.{concat_map-same, map_same, of-up_from}
use Rattle.definitions.proofs.Laws.Lists.Sums.{sum_same}
use Rattle.definitions.proofs.Laws.Text.Ranges.{phone_range}
use Rattle.definitions.proofs.Laws.Trees.Walks.{Forward, by-node, walk-leaf, walk-question}
use Rattle.definitions.proofs.Laws.Books.LeftOut.{spot-below, at-spot}
use Rattle.definitions.proofs.Laws.Books.ForcedRoots.{tree_plain}
use Rattle.definitions.proofs.Laws.Books.KnownBooks.{Stated, stated-sound}
use Rattle.definitions.proofs.Laws.Trees.ModelsAlong.{context-in-range}
use Rattle.definitions.proofs.Laws.Trees.Contexts.{silences-length, silent-phones}
use Rattle.definitions.proofs.Spelling.TreeShapes.{below-asks, below-gives}
use Rattle.definitions.proofs.Spelling.PlainStated.{stated-forward}

-- the answer to what a question asks by its set
abbrev pub answers_set : (context : List ℕ) → Question → Bool
answers_set context asked = has (context ! asked.position) asked.set

-- what is reached, with 0 for the leaf's number: nodes of a tree by itself have none
abbrev pub unnumbered : Reached → Reached
unnumbered r = record { leaf = 0; model = r.model; questions = r.questions }

unfoldable pub reached_in : Tree → (context : List ℕ) → Reached
reached_in (asking asked on_yes on_no) context =
    past_question (if answers_set context asked then reached_in on_yes context else reached_in on_no context)
reached_in (giving model) context = at_leaf 0 model

module _ (nodes : List TreeNode) (classes context : List ℕ) (forward : Forward nodes) where
  -- the walk in the nodes and the tree below come to the same
  abbrev Agree : (levels node : ℕ) → Type 0
  Agree levels node =
      unnumbered (walk levels nodes classes context node) ≡ reached_in (tree_below levels nodes classes node) context

  chosen : (b : Bool) (levels yes_node no_node : ℕ) → Agree levels yes_node → Agree levels no_node
      → unnumbered (walk levels nodes classes context (if b then yes_node else no_node))
      ≡ (if b then reached_in (tree_below levels nodes classes yes_node) context
      else reached_in (tree_below levels nodes classes no_node) context)
  chosen true levels yes_node no_node y n = y
  chosen false levels yes_node no_node y n = n

  reached-below : (levels node : ℕ) → node < length nodes → length nodes ≤ node + levels → Agree levels node
  unfolding reached_in answers
  reached-below zero node h k = absurd (omega arith)
  reached-below (suc levels) node h k =
      by-node nodes node
      (λ model e.
      rw (
        walk-leaf nodes classes context levels node model e,
        below-gives nodes classes levels node model e,
      ))
      (λ asked yes_node no_node e.
      let (yes_later, no_later) = forward node asked yes_node no_node e in
      rw (
        walk-question nodes classes context levels node asked yes_node no_node e,
        below-asks nodes classes levels node asked yes_node no_node e,
      )
      (ap past_question (chosen (answers classes context asked) levels yes_node no_node
      (reached-below levels yes_node yes_later.listed (omega (arith, yes_later.greater)))
      (reached-below levels no_node no_later.listed (omega (arith, no_later.greater))))))

-- ---- the trees of a book

-- the tree in force of a phone and a state, which is there
abbrev pub tree_in : Option Tree → Tree
tree_in none = giving 0
tree_in (some t) = t

abbrev pub tree_of : List (Option Tree) → (plains : List ℕ) → (states phone state : ℕ) → Tree
tree_of trees plains states phone state = tree_in (get_or trees (root_place states (tree_phone plains phone) state) none)

module _ (header : Header) (contents : Contents) (s : Stated header contents) (phone state : ℕ)
    (p : 1 ≤ phone) (P : phone ≤ contents.phones) (k : 1 ≤ state) (K : state ≤ contents.states)
  where
    -- where its root stands, in R order
    abbrev place : ℕ
    place = root_place contents.states (tree_phone contents.plains phone) state

    abbrev root : ℕ
    root = root_of (book_in contents) phone state

    place-listed : place < length contents.roots
    unfolding root_count
    place-listed =
        let trees = tree_plain header contents.plains contents.roots (sym s.heads.plains) s.plains
        s.roots phone p (omega (arith, P, s.heads.phones)) in
        let all : contents.phones * contents.states ≡ length contents.roots =
        rw (← s.heads.phones, ← s.heads.states) s.heads.roots in
        rw (← all) (spot-below (record { phone_low = trees.low; state_low = k; state_high = K })
        (omega (arith, trees.high, s.heads.phones)))

    root_is : contents.roots ! place ≡ root
    unfolding root_of book_in roots_in_force
    root_is =
        sym (at-spot (λ phone state. contents.roots ! root_place contents.states (tree_phone contents.plains phone)
        state) (record { phone_low = p; state_low = k; state_high = K }) P)

    -- and its tree
    tree_is : tree_of (trees_of contents) contents.plains contents.states phone state
        ≡ tree_at contents.nodes contents.classes root
    unfolding trees_of book_in
    tree_is =
        let listed : root < length contents.nodes = (stated-sound header contents s).root phone state in
        let a-node : eqb root no_root ≡ false =
        ne_eqb root no_root (λ e. omega (arith, e, listed, s.heads.nodes, s.in-range.nodes_range.high)) in
        ap tree_in (map_at (tree_for contents.nodes contents.classes) contents.roots 0 none place place-listed
        ∙ ap (tree_for contents.nodes contents.classes) root_is) ∙ rw a-node refl

-- what a book's trees give along a sequence, with no numbers of nodes and classes
unfoldable pub given_by_trees : (half states : ℕ) → (plains : List ℕ) → List (Option Tree) → (S : List ℕ) → Transcribed
given_by_trees half states plains trees S =
    let reach : List ℕ → ℕ → Reached =
    λ context state. reached_in (tree_of trees plains states (context ! half) state) context in
    record {
      models = concat_map (λ context. map (λ state. (reach context state).model) (up_from 1 states)) (contexts half S);
      questions =
          sum_of (λ context. sum_of (λ state. (reach context state).questions) (up_from 1 states)) (contexts half S);
    }

module _ (header : Header) (contents : Contents) (s : Stated header contents) where
  reached-of : (context : List ℕ) (state : ℕ) → 1 ≤ context ! contents.half
      → context ! contents.half ≤ contents.phones → 1 ≤ state → state ≤ contents.states
      → unnumbered (reached_for (book_in contents) context state)
      ≡ reached_in (tree_of (trees_of contents) contents.plains contents.states (context ! contents.half) state)
      context
  unfolding reached book_in
  reached-of context state p P k K =
      let phone : ℕ = context ! contents.half in
      reached-below contents.nodes contents.classes context (stated-forward header contents s)
      (length contents.nodes) (root_of (book_in contents) phone state)
      ((stated-sound header contents s).root phone state) (omega arith)
      ∙ ap (λ (t : Tree). reached_in t context) (sym (tree_is header contents s phone state p P k K))

  module _ (S : List ℕ) (h : T (every (is_phone contents.phones) S)) where
    abbrev places : List (List ℕ)
    places = contexts contents.half S

    abbrev states : List ℕ
    states = up_from 1 contents.states

    reached-at : (context : List ℕ) → IsIn context places → (state : ℕ) → IsIn state states
        → unnumbered (reached_for (book_in contents) context state)
        ≡ reached_in (tree_of (trees_of contents) contents.plains contents.states (context ! contents.half) state)
        context
    reached-at context c state i =
        let n : ℕ = contents.half in
        let wide = silences-length n in
        let (width, phones) = context-in-range contents.phones n (silences n) S (silences n) context wide wide
        (silent-phones n S contents.phones (omega (arith, s.in-range.phones_range.low, s.heads.phones)) h) c in
        let (low, high) = (phone_range contents.phones (context ! n)).0
        (every-at (is_phone contents.phones) context 0 phones n (omega arith)) in
        let (first, last) = of-up_from 1 contents.states state i in
        reached-of context state low high first (omega arith)

    pub given-by-trees : transcribed (book_in contents) S
        ≡ given_by_trees contents.half contents.states contents.plains (trees_of contents) S
    unfolding transcribed transcription model_of question_sum questions_at book_in given_by_trees
    given-by-trees = ap₂ both
        (concat_map-same _ _ places (λ context c. map_same _ _ states (λ state i.
        ap (λ (r : Reached). r.model) (reached-at context c state i))))
        (sum_same _ _ places (λ context c. sum_same _ _ states (λ state i.
        ap (λ (r : Reached). r.questions) (reached-at context c state i))))
      where
        both : List ℕ → ℕ → Transcribed
        both models questions = record { models = models; questions = questions }
