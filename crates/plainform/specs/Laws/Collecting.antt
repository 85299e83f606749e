-- Laws about sets noted in lent words: one more set, the sets of a tree, and those of all trees.
use Rattle.std.specs.Prelude.{if◌then◌else◌, ◌≡◌, true, false, refl, ◌≢◌, List, [], ◌∷◌, ◌++◌, map, ℕ, ◌+◌, ◌-◌, ◌*◌, ◌≤◌, ◌<◌, length, take, drop, set, eqb}
use Rattle.std.proofs.Common.{sym, ap, ◌∙◌, append-nil, add-one, arith, length-append, take-suc-set}
use Rattle.std.proofs.Math.ListN.{length-set}
use Rattle.definitions.specs.declared.Header.{Header}
use Rattle.definitions.specs.declared.Node.{Node}
use Rattle.definitions.specs.Lists.{◌!◌, at_least_one, concat_map}
use Rattle.definitions.specs.BookReading.{node_size}
use Rattle.definitions.specs.Tables.{node_of}
use Rattle.definitions.specs.BookLines.{no_root}
use Rattle.definitions.specs.PlainForm.{Tree, sets_in, first_uses, trees_there}
use Rattle.definitions.proofs.Laws.Lists.Lists.{concat_map-append}
use Rattle.plainform.specs.LentTrees.{tree_in, uses_in, KnownNode}
use Rattle.plainform.specs.Collecting.{Collected}
use Rattle.plainform.specs.Laws.LentTrees.{asks-here, gives-here, found, not_there, is-there, there-next}
use Rattle.plainform.specs.Laws.LentTrees.{trees-end}

-- ---- one set

module _ (sets : List ℕ) (used x : ℕ) (room : used < length sets) where
  pub note-old : at_least_one (eqb x) (take used sets) ≡ true → Collected sets used (x ∷ []) used sets
  unfolding first_uses
  note-old h = record { sized = refl; few = omega arith; holds = rw h }

  pub note-new : at_least_one (eqb x) (take used sets) ≡ false
      → Collected sets used (x ∷ []) (used + 1) (set sets used x)
  unfolding first_uses
  note-new h =
      record {
        sized = length-set sets used x;
        few = omega arith;
        holds = rw (h, add-one) (take-suc-set sets used x room);
      }

-- ---- several

collected-none : (sets : List ℕ) (used : ℕ) → Collected sets used [] used sets
unfolding first_uses
collected-none sets used = record { sized = refl; few = omega arith; holds = refl }

uses-parts : (seen k l : List ℕ) → first_uses seen (k ++ l) ≡ first_uses (first_uses seen k) l
unfolding first_uses
uses-parts seen [] l = refl
uses-parts seen (x ∷ k) l = uses-parts (if at_least_one (eqb x) seen then seen else seen ++ (x ∷ [])) k l

collected-more : {a b c k l : List ℕ} {used count more : ℕ} → Collected a used k count b
    → Collected b count l more c → Collected a used (k ++ l) more c
collected-more {a} {b} {c} {k} {l} {used} {count} {more} p q =
    record {
      sized = q.sized ∙ p.sized;
      few = rw length-append (omega (arith, p.few, q.few));
      holds = q.holds ∙ rw p.holds (sym (uses-parts (take used a) k l));
    }

-- ---- the sets of the tree at a node

module _ {header : Header} {nodes : List ℕ} {node : ℕ} (k : KnownNode header nodes node) {x : Node}
    (own : x ≡ node_of (drop (node_size * node) nodes)) (classes : List ℕ) where
  abbrev uses : ℕ → List ℕ
  uses n = sets_in (tree_in header nodes classes n)

  pub collected-leaf : (sets : List ℕ) (used : ℕ) → (x.kind ≡ 1 → ⊥) → Collected sets used (uses node) used sets
  unfolding sets_in
  collected-leaf sets used other = rw (gives-here k own classes other) (collected-none sets used)

  pub collected-question : {a b c d : List ℕ} {used own-count yes-count count : ℕ} → x.kind ≡ 1
      → Collected a used ((classes ! (x.value - 1)) ∷ []) own-count b
      → Collected b own-count (uses x.yes) yes-count c → Collected c yes-count (uses x.no) count d
      → Collected a used (uses node) count d
  unfolding sets_in
  collected-question kind p q r =
      rw (asks-here k own kind classes) (collected-more (collected-more p q) r)

-- ---- the sets of the tree at a root, if it is given

module _ (header : Header) (nodes classes : List ℕ) (root : ℕ) where
  pub collected-absent : (sets : List ℕ) (used : ℕ) → root ≡ no_root
      → Collected sets used (uses_in header nodes classes (root ∷ [])) used sets
  unfolding concat_map
  collected-absent sets used e = rw (not_there (tree_in header nodes classes) root e) (collected-none sets used)

  pub root-uses : root ≢ no_root → uses_in header nodes classes (root ∷ []) ≡ sets_in (tree_in header nodes classes root)
  unfolding concat_map
  root-uses there = rw (is-there (tree_in header nodes classes) root there) (append-nil _)

-- ---- the sets of all trees: those from root `i` on are left

abbrev left : (tree : ℕ → Tree) → (roots : List ℕ) → (i : ℕ) → List ℕ
left tree roots i = concat_map sets_in (trees_there (map (found tree) (drop i roots)))

pub record Gathered (tree : ℕ → Tree) (roots before : List ℕ) (i : ℕ) (sets : List ℕ) (used : ℕ) : Type 0 where
  pub within : i ≤ length roots
  pub sized : length sets ≡ length before
  pub few : used + length (left tree roots i) ≤ length (left tree roots 0)
  pub rest : first_uses (take used sets) (left tree roots i) ≡ first_uses (take 0 before) (left tree roots 0)

pub gathered-start : (tree : ℕ → Tree) (roots before : List ℕ) → Gathered tree roots before 0 before 0
gathered-start tree roots before =
    record { within = omega arith; sized = refl; few = omega arith; rest = refl }

module _ {tree : ℕ → Tree} {roots before : List ℕ} {i used : ℕ} {sets : List ℕ}
    (g : Gathered tree roots before i sets used) where
  module _ (h : i < length roots) where
    abbrev own : List ℕ
    own = concat_map sets_in (trees_there (map (found tree) ((roots ! i) ∷ [])))

    abbrev others : List ℕ
    others = left tree roots (i + 1)

    parts : left tree roots i ≡ own ++ others
    parts =
        ap (concat_map sets_in) (there-next tree roots i h)
        ∙ concat_map-append sets_in (trees_there (map (found tree) ((roots ! i) ∷ [])))
        (trees_there (map (found tree) (drop (i + 1) roots)))

    many : length (left tree roots i) ≡ length own + length others
    many = ap length parts ∙ length-append own others

    pub gathered-room : length (left tree roots 0) ≤ length before
        → used + length own ≤ length sets
    gathered-room room = omega (arith, g.few, g.sized, many)

    pub gathered-more : {after : List ℕ} {count : ℕ} → Collected sets used own count after
        → Gathered tree roots before (i + 1) after count
    gathered-more c =
        record {
          within = omega arith;
          sized = c.sized ∙ g.sized;
          few = omega (arith, g.few, c.few, many);
          rest =
              ap (λ (l : List ℕ). first_uses l others) c.holds
              ∙ sym (uses-parts (take used sets) own others)
              ∙ ap (first_uses (take used sets)) (sym parts)
              ∙ g.rest;
        }

  pub gathered-end : length roots ≤ i → Collected before 0 (left tree roots 0) used sets
  unfolding concat_map first_uses trees_there
  gathered-end h =
      record {
        sized = g.sized;
        few = omega (arith, g.few);
        holds = rw (trees-end tree roots i h) at g.rest;
      }
