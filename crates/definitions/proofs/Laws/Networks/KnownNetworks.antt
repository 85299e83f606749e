-- Laws about known arcs: known counts with words are orderly counts and arcs, and the words hold nothing else;
-- and the table that reading orderly ones leaves is known. The round trips use them.
use Rattle.std.specs.Prelude.{◌≡◌, refl, ◌↔◌, List, [], ◌∷◌, ◌++◌, map, ◌&&◌, ℕ, ◌*◌, ◌≤◌, T, length, take}
use Rattle.std.proofs.Common.{sym, ap, ap₂, ◌∙◌}
use Rattle.std.proofs.Math.Bool.{Bool}
use Rattle.definitions.specs.declared.Counts.{Counts}
use Rattle.definitions.specs.Faults.{answered}
use Rattle.definitions.specs.Lists.{every, concat_map, records, padded}
use Rattle.definitions.specs.ForeignTables.{holds_only}
use Rattle.definitions.specs.Arcs.{Arc, arc_size, arc_words, arc_of, arcs_in}
use Rattle.definitions.specs.NetworkText.{arcs_left, arc_known, never_descending, network_known}
use Rattle.definitions.proofs.Laws.Lists.Tests.{T_and, T-three}
use Rattle.definitions.proofs.Laws.Lists.Lists.{four}
use Rattle.definitions.proofs.Laws.Lists.Records.{joined, all_of, sized-parts, read_length, records-sized}
use Rattle.definitions.proofs.Laws.Lists.Records.{joined-records, arc-sized, arcs-read, flat-length}
use Rattle.definitions.proofs.Laws.Books.AcceptedKnown.{holds-padded, holds-used}
use Rattle.definitions.proofs.Laws.Networks.NetworkLines.{lines_for, lines-arcs, counts_ranged}
use Rattle.definitions.proofs.Laws.Networks.NetworkTexts.{Orderly}

-- ---- arcs in words

pub arcs-length : (count : ℕ) (words : List ℕ) → length (arcs_in count words) ≡ count
unfolding arcs_in
arcs-length count words = read_length arc_size arc_of count words

-- written again, they are the words that they were taken from
arcs-again : (own : List (List ℕ)) → T (all_of arc_size own) → concat_map arc_words (map arc_of own) ≡ joined own
unfolding concat_map arc_words arc_of
arcs-again [] h = refl
arcs-again (words ∷ own) h =
    let (size, sizes) = sized-parts arc_size words own h in
    ap₂ ◌++◌ (four words size) (arcs-again own sizes)

pub arcs-written : (count : ℕ) (words : List ℕ) → arc_size * count ≤ length words
    → concat_map arc_words (arcs_in count words) ≡ take (arc_size * count) words
unfolding arcs_in
arcs-written count words h =
    arcs-again (records arc_size count words) (records-sized arc_size count words h)
    ∙ joined-records arc_size count words h

-- ---- the parts of the test for foreign arcs

module _ (counts : Counts) (words : List ℕ) where
  abbrev pub arcs_held : List Arc
  arcs_held = arcs_in counts.arcs words

  pub known-parts : T (network_known counts words)
      ↔ (T (counts_ranged counts) × T (holds_only (arc_size * counts.arcs) words)
      × T (every (arc_known counts) arcs_held) × T (never_descending arcs_held))
  unfolding network_known
  known-parts =
      let held : Bool = holds_only (arc_size * counts.arcs) words in
      let known : Bool = every (arc_known counts) arcs_held in
      let three = T-three (counts_ranged counts) held known in
      let all = T_and (counts_ranged counts && held && known) (never_descending arcs_held) in (
        λ h. let (before, order) = all.0 h in
            let (ranged, holds, arcs) = three.0 before in (ranged, holds, arcs, order),
        λ (ranged, holds, arcs, order). all.1 (three.1 (ranged, holds, arcs), order),
      )

  -- known arcs can be read into any table with room for them, and are all that their own words hold
  pub known-orderly : (lent : ℕ) → T (network_known counts words) → arc_size * counts.arcs ≤ lent
      → Orderly lent counts arcs_held
  known-orderly lent h wide =
      let (ranged, holds, known, order) = known-parts.0 h in
      record {
        ranged = ranged;
        wide = wide;
        all = arcs-length counts.arcs words;
        known = known;
        in_order = order;
      }

  pub known-holds : T (network_known counts words)
      → (arc_size * counts.arcs ≤ length words)
      × (words ≡ padded (length words) (take (arc_size * counts.arcs) words))
  known-holds h = let (_, holds, _, _) = known-parts.0 h in holds-padded (arc_size * counts.arcs) words holds

-- ---- the arcs that reading leaves

-- the table after reading
abbrev pub table_of : (lent : ℕ) → List Arc → List ℕ
table_of lent arcs = padded lent (concat_map arc_words arcs)

pub table-left : (lent : ℕ) (counts : Counts) (arcs : List Arc)
    → arcs_left lent (answered (lines_for counts arcs)) ≡ table_of lent arcs
unfolding arcs_left
table-left lent counts arcs = rw (lines-arcs counts arcs)

module _ (lent : ℕ) (counts : Counts) (arcs : List Arc) (o : Orderly lent counts arcs) where
  abbrev table : List ℕ
  table = table_of lent arcs

  pub orderly-arcs : arcs_in counts.arcs table ≡ arcs
  orderly-arcs = ap (λ (n : ℕ). arcs_in n table) (sym o.all) ∙ arcs-read lent arcs

  pub orderly-known : T (network_known counts table)
  orderly-known =
      let count : arc_size * counts.arcs ≡ length (concat_map arc_words arcs) =
      ap (λ (n : ℕ). arc_size * n) (sym o.all) ∙ sym (flat-length arc_words arc_size arc-sized arcs) in
      (known-parts counts table).1 (
        o.ranged,
        holds-used lent (arc_size * counts.arcs) (concat_map arc_words arcs) count o.wide,
        rw orderly-arcs o.known,
        rw orderly-arcs o.in_order,
      )
