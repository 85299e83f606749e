-- Demand 2 of document 01: a network written as text and read again is the same network, and text read and
-- written again is the same text.
use Rattle.std.specs.Prelude.{◌≡◌, Bool, true, ◌&&◌, ℕ, ◌+◌, ◌*◌, ◌≤◌, T, leb, length, take}
use Rattle.std.proofs.Common.{sym, ap, ◌∙◌, subst, arith, le→leb, lit<}
use mathlib.Core.List.{List, [], ◌∷◌}
use Rattle.definitions.specs.NetworkText.{Leaves, counts_of, read_network, arcs_left, network_known}
use Rattle.definitions.specs.NetworkText.{network_text, write_network}
use Rattle.definitions.specs.declared.Counts.{Counts}
use Rattle.definitions.specs.declared.Fault.TheVariants.{Foreign, Short}
use Rattle.definitions.specs.Faults.{answered, ◌unless◌}
use Rattle.definitions.specs.Lists.{every, padded}
use Rattle.definitions.specs.Arcs.{Arc, arc_size, arcs_in}
use Rattle.definitions.proofs.Laws.Lists.Tests.{T_and}
use Rattle.definitions.proofs.Laws.Text.Judging.{passes_at, judge-passing, judge-answered}
use Rattle.definitions.proofs.Laws.Networks.NetworkLines.{lines_for, lines-arcs, lines-counts}
use Rattle.definitions.proofs.Laws.Networks.NetworkTexts.{Orderly, lines-length, network-read, Found}
use Rattle.definitions.proofs.Laws.Networks.NetworkTexts.{network-found}
use Rattle.definitions.proofs.Laws.Networks.KnownNetworks.{arcs-written, arcs_held, known-orderly}
use Rattle.definitions.proofs.Laws.Networks.KnownNetworks.{known-holds, table_of, table-left, orderly-arcs}
use Rattle.definitions.proofs.Laws.Networks.KnownNetworks.{orderly-known}

-- the text of the arcs that words hold
abbrev pub text_held : Counts → (words : List ℕ) → List ℕ
text_held counts words = network_text counts (arcs_held counts words)

-- known arcs are left by their text, in any table with room for them
module _ (counts : Counts) (words : List ℕ) (known : T (network_known counts words)) where
  known-leaves : (lent : ℕ) → arc_size * counts.arcs ≤ lent
      → Leaves lent (text_held counts words) counts (padded lent (take (arc_size * counts.arcs) words))
  unfolding arcs_left
  known-leaves lent wide =
      let arcs : List Arc = arcs_held counts words in
      let read = network-read lent counts arcs (known-orderly counts words lent known wide) in
      let same = arcs-written counts.arcs words (known-holds counts words known).0 in
      (lines_for counts arcs, read, lines-counts counts arcs, rw (read, arcs_left, lines-arcs counts arcs, same))

  pub known-leaves-same : Leaves (length words) (text_held counts words) counts words
  known-leaves-same =
      let (wide, whole) = known-holds counts words known in
      subst (λ table. Leaves (length words) (text_held counts words) counts table) (sym whole)
      (known-leaves (length words) wide)

-- counts with words that a text leaves are known, and the text is theirs
pub leaves-known : (lent : ℕ) (text : List ℕ) (counts : Counts) (words : List ℕ) → Leaves lent text counts words
    → T (network_known counts words) × (text_held counts words ≡ text)
leaves-known lent text counts words (lines, read, stated, left) =
    let f : Found lent text lines = network-found lent text lines read in
    let same : f.counts ≡ counts = sym (ap counts_of f.own ∙ lines-counts f.counts f.arcs) ∙ stated in
    let after : arcs_left lent (read_network lent text) ≡ table_of lent f.arcs =
    ap (arcs_left lent) (read ∙ ap answered f.own) ∙ table-left lent f.counts f.arcs in
    let held : table_of lent f.arcs ≡ words = sym after ∙ left in
    go f.counts f.arcs f.orderly f.written same held
  where
    go : (stated : Counts) (arcs : List Arc) (o : Orderly lent stated arcs) → text ≡ network_text stated arcs
        → stated ≡ counts → table_of lent arcs ≡ words
        → T (network_known counts words) × (text_held counts words ≡ text)
    go stated arcs o written same held =
        rw (← same, ← held)
        (orderly-known lent stated arcs o, rw (orderly-arcs lent stated arcs o) (sym written))

-- ---- the round trips

-- what writing answers
written-parts : (counts : Counts) (words : List ℕ) (size : ℕ) (text : List ℕ)
    → write_network counts words size ≡ answered text
    → T (network_known counts words) × (text_held counts words ≡ text)
unfolding write_network
written-parts counts words size text e =
    let (passed, answer) = judge-answered 0 _ (answered (text_held counts words)) text e in
    (passes_at _ passed 0 (lit< tt), cc)

-- "a network written as text and read again is the same network": into any table with room for its arcs
pub written_read : (counts : Counts) (words : List ℕ) (size : ℕ) (text : List ℕ) (lent : ℕ)
    → write_network counts words size ≡ answered text → arc_size * counts.arcs ≤ lent
    → Leaves lent text counts (padded lent (take (arc_size * counts.arcs) words))
written_read counts words size text lent e wide =
    let (known, own-text) = written-parts counts words size text e in
    subst (λ t. Leaves lent t counts (padded lent (take (arc_size * counts.arcs) words))) own-text
    (known-leaves counts words known lent wide)

-- and into a table of the same length
pub written-read-same : (counts : Counts) (words : List ℕ) (size : ℕ) (text : List ℕ)
    → write_network counts words size ≡ answered text → Leaves (length words) text counts words
written-read-same counts words size text e =
    let (known, own-text) = written-parts counts words size text e in
    subst (λ t. Leaves (length words) t counts words) own-text (known-leaves-same counts words known)

-- "text read and written again is the same text"
pub read-written : (lent : ℕ) (text : List ℕ) (counts : Counts) (words : List ℕ) (size : ℕ)
    → Leaves lent text counts words → length text ≤ size → write_network counts words size ≡ answered text
unfolding write_network every
read-written lent text counts words size left room =
    let (known, own-text) = leaves-known lent text counts words left in
    let fits : Bool = leb (length text) size in
    let short : T (fits && true) = (T_and fits true).1 (le→leb (length text) size room, tt) in
    rw own-text
    (judge-passing 0 (Foreign unless network_known counts words ∷ Short unless fits ∷ [])
    (answered text) ((T_and (network_known counts words) (fits && true)).1 (known, short)))

-- ---- how long the text is, and that it is written where it has room

pub text-length : (counts : Counts) (words : List ℕ) → T (network_known counts words)
    → length (network_text counts (arcs_in counts.arcs words)) ≡ 32 + 32 * counts.arcs
text-length counts words h =
    let (wide, _) = known-holds counts words h in
    let orderly = known-orderly counts words (length words) h wide in
    lines-length (length words) counts (arcs_held counts words) orderly

pub known_written : (counts : Counts) (words : List ℕ) (size : ℕ) → T (network_known counts words)
    → 32 + 32 * counts.arcs ≤ size
    → write_network counts words size ≡ answered (network_text counts (arcs_in counts.arcs words))
known_written counts words size known room =
    read-written (length words) (text_held counts words) counts words size (known-leaves-same counts words known)
    (omega (arith, text-length counts words known, room))
