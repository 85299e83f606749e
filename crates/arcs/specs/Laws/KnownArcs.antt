-- Laws about the test for foreign arcs, one for each answer of the code. Arcs are tested in one pass, each by
-- itself and its source against the last one, so the whole is left to the arcs that follow and that source.
use Rattle.std.specs.Prelude.{◌≡◌, refl, List, [], ◌∷◌, Bool, true, false, ◌&&◌, T, leb, length, take, drop, get_or}
use Rattle.std.proofs.Math.Path.{sym}
use Rattle.std.proofs.Common.{ap, ◌∙◌, add-zero, add-one, arith, drop_of_length-le, drop-cons, get_or-take, get_or-drop, length-take-le}
use Rattle.std.proofs.Math.Bool.{and-false}
use Prim.Native.Nat.{ℕ, ◌+◌, ◌*◌, ◌/◌, ◌≤◌, ◌<◌}
use Rattle.std.proofs.Math.ListN.{get_or-map}
use borrow.Author.Tests.{le-leb, lt-leb}
use Rattle.definitions.specs.declared.Counts.{Counts}
use Rattle.definitions.specs.Lists.{◌!◌, every, records}
use Rattle.definitions.specs.ForeignTables.{holds_only}
use Rattle.definitions.specs.Arcs.{Arc, arc, arc_size, arc_of, arcs_in}
use Rattle.definitions.specs.NetworkText.{arc_known, never_descending, network_known}
use Rattle.definitions.proofs.Laws.Lists.Records.{record-at, records-taken}
use Rattle.definitions.proofs.Laws.Books.AcceptedKnown.{holds-padded}
use Rattle.definitions.proofs.Laws.Networks.NetworkLines.{counts_ranged}
use Rattle.definitions.proofs.Laws.Networks.KnownNetworks.{arcs-length, known-parts, known-holds}
use Rattle.arcs.specs.Whole.{all_arcs, arc_at}

-- ---- arcs in words

-- the arc at a place
pub arc-at : (count : ℕ) (words : List ℕ) (i : ℕ) → i < count
    → get_or (arcs_in count words) i (arc_of []) ≡ arc_at words i
unfolding arcs_in
arc-at count words i h =
    get_or-map arc_of (records arc_size count words) i [] ∙ ap arc_of (record-at arc_size count words i h)

-- by its words; its source is the first
word_at : (words : List ℕ) (i k : ℕ) → k < arc_size
    → take arc_size (drop (arc_size * i) words) ! k ≡ words ! (arc_size * i + k)
word_at words i k h =
    get_or-take arc_size (drop (arc_size * i) words) k 0 h ∙ get_or-drop (arc_size * i) words k 0

pub source-at : (words : List ℕ) (i : ℕ) → (arc_at words i).from ≡ words ! (arc_size * i)
unfolding arc_of
source-at words i = word_at words i 0 (omega arith) ∙ rw add-zero

pub arc-words-at : (words : List ℕ) (i : ℕ)
    → arc_at words i
    ≡ arc (words ! (arc_size * i)) (words ! (arc_size * i + 1)) (words ! (arc_size * i + 2)) (words ! (arc_size * i + 3))
unfolding arc_of
arc-words-at words i = λ j. record {
  from = source-at words i j;
  to = word_at words i 1 (omega arith) j;
  model = word_at words i 2 (omega arith) j;
  phone = word_at words i 3 (omega arith) j;
}

pub arcs-next : (count : ℕ) (words : List ℕ) (i : ℕ) → i < count
    → drop i (arcs_in count words) ≡ arc_at words i ∷ drop (i + 1) (arcs_in count words)
arcs-next count words i h =
    let within : i < length (arcs_in count words) = rw (arcs-length count words) h in
    drop-cons (arcs_in count words) i (arc_of []) within ∙ rw (arc-at count words i h, add-one)

arcs-end : (count : ℕ) (words : List ℕ) (i : ℕ) → count ≤ i → drop i (arcs_in count words) ≡ []
arcs-end count words i h = drop_of_length-le (arcs_in count words) {i = i} (rw (arcs-length count words) h)

-- ---- one pass over all arcs

-- whether sources never descend from the last one on
unfoldable pub descends_not : (last : ℕ) → List Arc → Bool
descends_not last [] = true
descends_not last (a ∷ arcs) = leb last a.from && never_descending (a ∷ arcs)

descends-none : (arcs : List Arc) → never_descending arcs ≡ descends_not 0 arcs
unfolding descends_not never_descending
descends-none [] = refl
descends-none (a ∷ arcs) = rw (le-leb 0 a.from (omega arith))

descends-after : (a : Arc) (arcs : List Arc) → never_descending (a ∷ arcs) ≡ descends_not a.from arcs
unfolding descends_not never_descending
descends-after a [] = refl
descends-after a (b ∷ arcs) = refl

abbrev pub arcs_known : Counts → List Arc → Bool
arcs_known counts arcs = every (arc_known counts) arcs && never_descending arcs

-- the arcs before place i pass, so the whole is left to the others and the last source
pub record Tested (counts : Counts) (words : List ℕ) (count last i : ℕ) : Type 0 where
  pub within : i ≤ count
  pub rest : arcs_known counts (arcs_in count words)
      ≡ (every (arc_known counts) (drop i (arcs_in count words)) && descends_not last (drop i (arcs_in count words)))

pub tested-start : (counts : Counts) (words : List ℕ) (count : ℕ) → Tested counts words count 0 0
tested-start counts words count =
    record { within = omega arith; rest = rw (descends-none (arcs_in count words)) }

module _ {counts : Counts} {words : List ℕ} {count last i : ℕ} (t : Tested counts words count last i) where
  abbrev after : List Arc
  after = drop (i + 1) (arcs_in count words)

  module _ (h : i < count) {a : Arc} (e : a ≡ arc_at words i) where
    tested-next : arcs_known counts (arcs_in count words)
        ≡ ((arc_known counts a && every (arc_known counts) after) && (leb last a.from && descends_not a.from after))
    unfolding every descends_not
    tested-next = t.rest ∙ rw (arcs-next count words i h, ← e, descends-after a after)

    pub tested-more : arc_known counts a ≡ true → last ≤ a.from → Tested counts words count a.from (i + 1)
    tested-more k l = record { within = omega arith; rest = tested-next ∙ rw (k, le-leb last a.from l) }

    pub tested-foreign : arc_known counts a ≡ false → false ≡ arcs_known counts (arcs_in count words)
    tested-foreign k = sym (tested-next ∙ rw k)

    pub tested-descends : a.from < last → false ≡ arcs_known counts (arcs_in count words)
    tested-descends l =
        sym (tested-next ∙ rw (lt-leb last a.from l)
        (and-false (arc_known counts a && every (arc_known counts) after)))

  pub tested-end : count ≤ i → true ≡ arcs_known counts (arcs_in count words)
  unfolding every descends_not
  tested-end h = sym (t.rest ∙ rw (arcs-end count words i h))

-- ---- the words that hold the arcs

pub arcs-taken : (count : ℕ) (words : List ℕ) → arc_size * count ≤ length words
    → all_arcs (take (arc_size * count) words) ≡ arcs_in count words
unfolding arcs_in
arcs-taken count words h =
    let all : arc_size * count / arc_size ≡ count = omega arith in
    rw (length-take-le (arc_size * count) words h, all, records-taken arc_size count words h)

-- ---- the counts, the words beyond the arcs, and the arcs

module _ (counts : Counts) (words : List ℕ) where
  pub network-miscounted : counts_ranged counts ≡ false → false ≡ network_known counts words
  unfolding network_known
  network-miscounted h = rw h

  pub network-unheld : {count : ℕ} → count ≡ counts.arcs → holds_only (arc_size * count) words ≡ false
      → counts_ranged counts ≡ true → false ≡ network_known counts words
  unfolding network_known
  network-unheld e h k = rw (k, ← e, h)

  pub network-judged : {count : ℕ} → count ≡ counts.arcs → holds_only (arc_size * count) words ≡ true
      → counts_ranged counts ≡ true
      → arcs_known counts (all_arcs (take (arc_size * count) words)) ≡ network_known counts words
  unfolding network_known
  network-judged {count = count} e h k =
      rw (arcs-taken count words (holds-padded (arc_size * count) words (rw h tt)).0, k, ← e, h)

-- ---- the words up to the last arc of a known network, by the code's count

module _ (counts : Counts) (words : List ℕ) {count : ℕ} (e : count ≡ counts.arcs)
    (h : network_known counts words ≡ true)
  where
    pub known-length : arc_size * count ≤ length words
    known-length = rw e (known-holds counts words (rw h tt)).0

    pub known-arcs : all_arcs (take (arc_size * count) words) ≡ arcs_in counts.arcs words
    known-arcs = arcs-taken count words known-length ∙ rw e

    pub known-taken : arc_size * count ≡ length (take (arc_size * count) words)
    known-taken = sym (length-take-le (arc_size * count) words known-length)

    pub known-order : T (never_descending (all_arcs (take (arc_size * count) words)))
    known-order = rw known-arcs ((known-parts counts words).0 (rw h tt)).3
