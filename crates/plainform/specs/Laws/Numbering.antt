-- Laws about trees numbered anew, as their records are put into a table: a leaf's record is its tree's; a
-- question's stands before those of its sides, though it is put between them, when the no side's number is known.
use Rattle.std.specs.Prelude.{◌≡◌, refl, ◌≢◌, eqb, drop, set}
use Rattle.std.proofs.Math.Path.{sym, ap}
use Rattle.std.proofs.Common.{ap₂, ◌∙◌, subst, add-one, arith, length-set, length-drop}
use mathlib.Core.List.{List, [], ◌∷◌, ◌++◌, map, append_assoc, append-nil}
use Rattle.std.proofs.Math.Option.{Option}
use Prim.Native.Nat.{ℕ, suc, ◌+◌, ◌-◌, ◌*◌, ◌≤◌, ◌<◌}
use Rattle.std.proofs.Math.ListN.{length, length-append}
use Rattle.std.proofs.lemmas.List.{length-map}
use Rattle.definitions.specs.declared.Header.{Header}
use Rattle.definitions.specs.declared.Node.{Node}
use Rattle.definitions.specs.Lists.{◌!◌, concat_map, sum_of}
use Rattle.definitions.specs.BookLines.{TreeNode, question, leaf, asks, no_root}
use Rattle.definitions.specs.BookReading.{node_size}
use Rattle.definitions.specs.Tables.{node_words, node_of, asked_of}
use Rattle.definitions.specs.PlainForm.{Question, Tree, asking, question_of, class_among, asked_among, size_of}
use Rattle.definitions.specs.PlainForm.{nodes_from, all_nodes, roots_from, trees_there}
use Rattle.definitions.proofs.Laws.Lists.Tests.{by-test}
use Rattle.definitions.proofs.Laws.Lists.Sums.{sum-append}
use Rattle.definitions.proofs.Laws.Lists.Lists.{concat_map-append}
use Rattle.definitions.proofs.Laws.Lists.Records.{flat-length}
use Rattle.definitions.proofs.Laws.Books.Tables.{node-sized}
use Rattle.definitions.proofs.Spelling.PlainTrees.{nodes-size, sizes, all-size, roots-length}
use Rattle.lines.specs.Putting.{put_at}
use Rattle.lines.specs.Laws.Putting.{put-none, put-each, put_both, put-before}
use Rattle.plainform.specs.LentTrees.{tree_in, there_in, KnownNode}
use Rattle.plainform.specs.Numbering.{words_of, all_words, start_of, Numberable, Numbered, NumberedTrees}
use Rattle.plainform.specs.Laws.LentTrees.{asks-here, gives-here, found, not_there, is-there, trees-next}
use Rattle.plainform.specs.Laws.LentTrees.{there-next, trees-end}

-- five words for each node, of a tree and of all trees
words_size : (nodes : List TreeNode) {size : ℕ} → length nodes ≡ size → length (words_of nodes) ≡ node_size * size
words_size nodes e = flat-length node_words node_size node-sized nodes ∙ ap (λ (n : ℕ). node_size * n) e

tree-words : (sets : List ℕ) (at : ℕ) (t : Tree) → length (words_of (nodes_from sets at t)) ≡ node_size * size_of t
tree-words sets at t = words_size (nodes_from sets at t) (nodes-size sets at t)

trees-words : (sets : List ℕ) (at : ℕ) (trees : List Tree) → length (all_words sets at trees) ≡ node_size * sizes trees
trees-words sets at trees = words_size (all_nodes sets at trees) (all-size sets at trees)

-- ---- a question and its sides

module _ (sets : List ℕ) (at : ℕ) (asked : Question) (on_yes on_no : Tree) where
  abbrev middle : ℕ
  middle = suc at + size_of on_yes

  abbrev own-words : List ℕ
  own-words = node_words (question (asked_among sets asked) (suc at) middle)

  abbrev yes-words : List ℕ
  yes-words = words_of (nodes_from sets (suc at) on_yes)

  abbrev no_words : List ℕ
  no_words = words_of (nodes_from sets middle on_no)

  all_words_lem : words_of (nodes_from sets at (asking asked on_yes on_no)) ≡ (own-words ++ yes-words) ++ no_words
  unfolding nodes_from concat_map
  all_words_lem =
      ap (λ (l : List ℕ). own-words ++ l)
      (concat_map-append node_words (nodes_from sets (suc at) on_yes) (nodes_from sets middle on_no))
      ∙ sym (append_assoc own-words yes-words no_words)

  question-put : (table : List ℕ) → node_size * (at + size_of (asking asked on_yes on_no)) ≤ length table
      → put_at (node_size * middle) no_words
      (put_at (node_size * at) own-words (put_at (node_size * suc at) yes-words table))
      ≡ put_at (node_size * at) (words_of (nodes_from sets at (asking asked on_yes on_no))) table
  unfolding size_of
  question-put table room =
      let own-size : length own-words ≡ node_size = node-sized _ in
      let yes-size = tree-words sets (suc at) on_yes in
      let no_size = tree-words sets middle on_no in
      let both = length-append own-words yes-words in
      let first = put-before (node_size * at) own-words yes-words table (node_size * suc at) (omega arith)
      (omega arith) in
      let second = put_both (node_size * at) (own-words ++ yes-words) no_words table (node_size * middle)
      (omega arith) (omega arith) in
      rw (first, all_words_lem) second

-- ---- the tree at a node

module _ {header : Header} {nodes : List ℕ} {node : ℕ} (k : KnownNode header nodes node) {x : Node}
    (own : x ≡ node_of (drop (node_size * node) nodes)) (classes sets : List ℕ) (at : ℕ) where
  abbrev tree : ℕ → Tree
  tree n = tree_in header nodes classes n

  pub numbered-leaf : {before words after : List ℕ} → (x.kind ≡ 1 → ⊥) → words ≡ node_words (leaf x.value)
      → after ≡ put_at (node_size * at) words before → Numbered sets at (tree node) before (at + 1) after
  unfolding size_of nodes_from concat_map node_words
  numbered-leaf other e put =
      rw (gives-here k own classes other) (record { counted = refl; put = put ∙ rw e })

  pub numbered-question : {before left words between right : List ℕ} {class middle next : ℕ} → x.kind ≡ 1
      → node_size * (at + size_of (tree node)) ≤ length before
      → Numbered sets (at + 1) (tree x.yes) before middle left
      → class ≡ class_among sets (classes ! (x.value - 1))
      → words ≡ node_words (question (asks class x.position) (at + 1) middle)
      → between ≡ put_at (node_size * at) words left
      → Numbered sets middle (tree x.no) between next right
      → Numbered sets at (tree node) before next right
  unfolding size_of
  numbered-question {before = before} {middle = middle} kind room y c e put n =
      let asked = asks-here k own kind classes in
      let there : middle ≡ suc at + size_of (tree x.yes) = omega (arith, y.counted) in
      let whole = question-put sets at (question_of classes (asked_of x)) (tree x.yes) (tree x.no) before
      (rw asked at room) in
      rw asked (record {
        counted = omega (arith, n.counted);
        put = n.put ∙ rw (put, e, y.put, c, there, add-one) whole;
      })

-- ---- the tree at a root, if it is given

nodes-append : (sets : List ℕ) (at : ℕ) (k l : List Tree)
    → all_nodes sets at (k ++ l) ≡ all_nodes sets at k ++ all_nodes sets (at + sizes k) l
unfolding all_nodes sum_of
nodes-append sets at [] l = ap (λ (n : ℕ). all_nodes sets n l) {x = at} {y = at + 0} (omega arith)
nodes-append sets at (t ∷ k) l =
    let own : List TreeNode = nodes_from sets at t in
    ap (λ (m : List TreeNode). own ++ m) (nodes-append sets (at + size_of t) k l)
    ∙ sym (append_assoc own (all_nodes sets (at + size_of t) k) (all_nodes sets (at + size_of t + sizes k) l))
    ∙ ap (λ (n : ℕ). (own ++ all_nodes sets (at + size_of t) k) ++ all_nodes sets n l) {x = at + size_of t + sizes k}
    {y = at + (size_of t + sizes k)} (omega arith)

module _ (header : Header) (nodes classes sets : List ℕ) (root at : ℕ) where
  abbrev here : List Tree
  here = there_in header nodes classes (root ∷ [])

  pub numbered-absent : (table : List ℕ) → root ≡ no_root → NumberedTrees sets at here table at table
  unfolding all_nodes concat_map
  numbered-absent table e =
      rw (not_there (tree_in header nodes classes) root e)
      (record { counted = omega arith; put = sym (put-none (node_size * at) table) })

  module _ (there : root ≢ no_root) where
    own-nodes : all_nodes sets at here ≡ nodes_from sets at (tree_in header nodes classes root)
    unfolding all_nodes
    own-nodes = rw (is-there (tree_in header nodes classes) root there) (append-nil _)

    own-size : length (all_nodes sets at here) ≡ size_of (tree_in header nodes classes root)
    own-size = ap length own-nodes ∙ nodes-size sets at (tree_in header nodes classes root)

    pub root-numberable : {table : List ℕ} → Numberable sets at (length (all_nodes sets at here)) table
        → Numberable sets at (size_of (tree_in header nodes classes root)) table
    root-numberable {table} n = subst (λ (size : ℕ). Numberable sets at size table) own-size n

    pub numbered-root : {before after : List ℕ} {next : ℕ}
        → Numbered sets at (tree_in header nodes classes root) before next after
        → NumberedTrees sets at here before next after
    numbered-root {before} n =
        record {
          counted = omega (arith, n.counted, own-size);
          put =
              n.put ∙ ap (λ (l : List TreeNode). put_at (node_size * at) (words_of l) before) (sym own-nodes);
        }

-- ---- all trees: those from root `i` on are left, the first of them from number `at` on

abbrev from : (tree : ℕ → Tree) → (roots : List ℕ) → (i : ℕ) → List (Option Tree)
from tree roots i = map (found tree) (drop i roots)

-- the tables before, and as they are
pub record AllNumbered (tree : ℕ → Tree) (sets roots table starts : List ℕ) (i at : ℕ) (table' starts' : List ℕ)
    : Type 0
  where
    pub within : i ≤ length roots
    pub counted : at + sizes (trees_there (from tree roots i)) ≡ sizes (trees_there (from tree roots 0))
    pub table-sized : length table' ≡ length table
    pub starts-sized : length starts' ≡ length starts
    pub table-left : put_at (node_size * at) (all_words sets at (trees_there (from tree roots i))) table'
        ≡ put_at 0 (all_words sets 0 (trees_there (from tree roots 0))) table
    pub starts-left : put_at i (roots_from at (from tree roots i)) starts'
        ≡ put_at 0 (roots_from 0 (from tree roots 0)) starts

-- the first new root, and the number after its tree
starts_first : (tree : ℕ → Tree) (root at : ℕ) (l : List (Option Tree))
    → roots_from at (found tree root ∷ l)
    ≡ start_of root at ∷ roots_from (at + sizes (trees_there (map (found tree) (root ∷ [])))) l
unfolding roots_from trees_there sum_of
starts_first tree root at l =
    by-test (eqb root no_root) (λ e. rw e (ap (λ (n : ℕ). no_root ∷ roots_from n l) {x = at} {y = at + 0} (omega arith)))
    (λ e. rw e (ap (λ (n : ℕ). at ∷ roots_from n l) {x = at + size_of (tree root)} {y = at + (size_of (tree root) + 0)}
    (omega arith)))

module _ {tree : ℕ → Tree} {sets roots table starts : List ℕ} {i at : ℕ} {table' starts' : List ℕ}
    (a : AllNumbered tree sets roots table starts i at table' starts') where
  abbrev whole : List Tree
  whole = trees_there (from tree roots 0)

  -- room for all nodes, counted tree by tree
  pub counted-room : Numberable sets 0 (length (all_nodes sets 0 whole)) table → Numberable sets 0 (sizes whole) table
  counted-room n = subst (λ (size : ℕ). Numberable sets 0 size table) (all-size sets 0 whole) n

  module _ (h : i < length roots) where
    abbrev own : List Tree
    own = trees_there (map (found tree) ((roots ! i) ∷ []))

    abbrev others : List Tree
    others = trees_there (from tree roots (i + 1))

    next : trees_there (from tree roots i) ≡ own ++ others
    next = there-next tree roots i h

    all-counted : at + sizes own + sizes others ≡ sizes whole
    all-counted = omega (arith, a.counted, ap sizes next, sum-append size_of own others)

    -- so there is room for its own
    pub own_room : Numberable sets 0 (length (all_nodes sets 0 whole)) table
        → Numberable sets at (length (all_nodes sets at own)) table'
    own_room n =
        let all = counted-room n in
        let many = all-size sets at own in
        record {
          few_sets = all.few_sets;
          few_nodes = omega (arith, many, all-counted, all.few_nodes);
          room = omega (arith, many, all-counted, all.room, a.table-sized);
        }

    module _ {table'' : List ℕ} {at' : ℕ} (n : NumberedTrees sets at own table' at' table'') where
      further : at' ≡ at + sizes own
      further = omega (arith, n.counted, all-size sets at own)

      table_more : node_size * sizes whole ≤ length table
          → put_at (node_size * at') (all_words sets at' others) table'' ≡ put_at 0 (all_words sets 0 whole) table
      table_more room =
          let own-size = trees-words sets at own in
          let others-size = trees-words sets at' others in
          let both = put_both (node_size * at) (all_words sets at own) (all_words sets at' others) table'
          (node_size * at') (omega (arith, further)) (omega (arith, all-counted, further, a.table-sized)) in
          let parts : all_words sets at own ++ all_words sets at' others ≡ all_words sets at (own ++ others) =
          rw further
          (sym (concat_map-append node_words (all_nodes sets at own) (all_nodes sets (at + sizes own) others))
          ∙ ap words_of (sym (nodes-append sets at own others))) in
          rw n.put (both ∙ ap (λ (l : List ℕ). put_at (node_size * at) l table') parts)
          ∙ (rw next at a.table-left)

      starts_more : (start : ℕ) → start ≡ start_of (roots ! i) at → length roots ≤ length starts
          → put_at (i + 1) (roots_from at' (from tree roots (i + 1))) (set starts' i start)
          ≡ put_at 0 (roots_from 0 (from tree roots 0)) starts
      starts_more start is few =
          let later : List ℕ = roots_from at' (from tree roots (i + 1)) in
          let many : length later ≡ length roots - (i + 1) =
          roots-length at' (from tree roots (i + 1)) ∙ length-map (drop (i + 1) roots) (found tree)
          ∙ length-drop (i + 1) roots in
          let one : set starts' i start ≡ put_at i (start ∷ []) starts' =
          put-each i start [] starts' (omega (arith, a.starts-sized)) in
          let both = put_both i (start ∷ []) later starts' (i + 1) refl (omega (arith, a.starts-sized)) in
          let first : start ∷ later ≡ roots_from at (from tree roots i) =
          ap₂ (λ (x at : ℕ). x ∷ roots_from at (from tree roots (i + 1))) is further
          ∙ sym (starts_first tree (roots ! i) at (from tree roots (i + 1)))
          ∙ ap (roots_from at) (sym (trees-next tree roots i h)) in
          rw one (both ∙ ap (λ (l : List ℕ). put_at i l starts') first) ∙ a.starts-left

      pub all_more : (start : ℕ) → start ≡ start_of (roots ! i) at
          → Numberable sets 0 (length (all_nodes sets 0 whole)) table → length roots ≤ length starts
          → length table'' ≡ length table'
          → AllNumbered tree sets roots table starts (i + 1) at' table'' (set starts' i start)
      all_more start is room few kept =
          record {
            within = omega arith;
            counted = omega (arith, all-counted, further);
            table-sized = kept ∙ a.table-sized;
            starts-sized = length-set starts' i start ∙ a.starts-sized;
            table-left = table_more (omega (arith, (counted-room room).room));
            starts-left = starts_more start is few;
          }

  pub all_end : length roots ≤ i
      → (table' ≡ put_at 0 (all_words sets 0 whole) table)
      × (starts' ≡ put_at 0 (roots_from 0 (from tree roots 0)) starts)
  unfolding all_nodes roots_from trees_there concat_map
  all_end h =
      let none = trees-end tree roots i h in (
        sym (put-none (node_size * at) table') ∙ (rw none at a.table-left),
        sym (put-none i starts') ∙ (rw none at a.starts-left),
      )
