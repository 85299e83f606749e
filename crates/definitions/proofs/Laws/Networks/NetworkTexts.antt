-- Laws about network texts: reading accepts the texts of orderly counts and arcs, and no others.
-- By one induction over the arcs that are to be read, and one over the lines that were read.
use Rattle.std.specs.Prelude.{◌≡◌, refl, true, ℕ, suc, ◌+◌, ◌*◌, ◌%◌, ◌≤◌, ltb, eqb}
use Rattle.std.proofs.Common.{sym, ◌∙◌, arith, length-append}
use Rattle.std.proofs.Math.Path.{ap, subst}
use mathlib.Core.List.{List, [], ◌∷◌, ◌++◌, map, map-append, append-nil}
use Rattle.std.proofs.Math.Dec.{T, eqb→eq}
use Rattle.std.proofs.Math.ListN.{length}
use Rattle.std.proofs.lemmas.List.{length-map}
use Rattle.std.proofs.Math.Seq.{append_snoc}
use Rattle.definitions.specs.declared.Counts.{Counts}
use Rattle.definitions.specs.Lists.{every, concat_map}
use Rattle.definitions.specs.Faults.{answered}
use Rattle.definitions.specs.Lines.{line_text, lines_of, ends_in_line_feed, whole_lines}
use Rattle.definitions.specs.Reading.{read_from, with_line}
use Rattle.definitions.specs.Arcs.{Arc, arc_size, arc_words}
use Rattle.definitions.specs.NetworkText.{NetworkLine, A, network_line, network_complete, network_kind}
use Rattle.definitions.specs.NetworkText.{read_network, arc_known, never_descending, line_of_counts, line_of_arc}
use Rattle.definitions.specs.NetworkText.{network_text}
use Rattle.definitions.proofs.Laws.Lists.Tests.{T-three, eq→eqb}
use Rattle.definitions.proofs.Laws.Lists.Lists.{every-cons, concat_map-map}
use Rattle.definitions.proofs.Laws.Lists.Records.{joined, all_of, sized-parts, concat_map-joined}
use Rattle.definitions.proofs.Laws.Text.Lines.{text-writes, text-sized}
use Rattle.definitions.proofs.Laws.Text.Reading.{line-passed, lines_end, text-lines}
use Rattle.definitions.proofs.Laws.Text.LineBytes.{is_byte}
use Rattle.definitions.proofs.Laws.Text.WrittenTexts.{line_bytes, written, text-bytes, text-length, AllNext}
use Rattle.definitions.proofs.Laws.Text.WrittenTexts.{all-ranged, text-taken}
use Rattle.definitions.proofs.Laws.Networks.NetworkLines.{lines_for, lines-complete, counts_ranged}
use Rattle.definitions.proofs.Laws.Networks.NetworkLines.{may_follow, network_writer, counts-next, arc-next}
use Rattle.definitions.proofs.Laws.Networks.NetworkLines.{counts-found, arc-found, order-parts}

-- counts and arcs that can be read into a table of so many words
pub record Orderly (lent : ℕ) (counts : Counts) (arcs : List Arc) : Type 0 where
  pub ranged : T (counts_ranged counts)
  pub wide : arc_size * counts.arcs ≤ lent
  pub all : length arcs ≡ counts.arcs
  pub known : T (every (arc_known counts) arcs)
  pub in_order : T (never_descending arcs)

abbrev pub arc_text : Arc → List ℕ
arc_text a = line_text (line_of_arc a)

-- ---- what is written is read

module _ (lent : ℕ) (counts : Counts) where
  -- one arc more
  lines_more : (done : List Arc) (a : Arc)
      → with_line (network_kind lent) (lines_for counts done) (line_of_arc a) ≡ lines_for counts (done ++ (a ∷ []))
  unfolding network_kind network_line line_of_arc arc_words
  lines_more done a = rw map-append

  -- after the arcs done, the lines of those that follow pass their tests one by one
  arcs-next : (done arcs : List Arc) → length done + length arcs ≡ counts.arcs
      → T (every (arc_known counts) arcs) → T (never_descending (done ++ arcs))
      → AllNext (network_writer lent) (lines_for counts done) (map A arcs)
  arcs-next done [] all known order = tt
  arcs-next done (a ∷ arcs) all known order =
      let (own, others) = (every-cons (arc_known counts) a arcs).0 known in
      let (_, follows, _) = (T-three (never_descending done) (may_follow done a) (never_descending (a ∷ arcs))).0
      (subst T (order-parts done a arcs) order) in
      let next = arcs-next (done ++ (a ∷ [])) arcs (rw length-append (omega arith)) others
      (rw (append_snoc done a arcs) order) in
      (arc-next lent counts done a (omega arith) own follows, rw map-append at next)

-- the text of counts and arcs is the text of their lines
text-written : (lent : ℕ) (counts : Counts) (arcs : List Arc)
    → written (network_writer lent) (lines_for counts arcs) ≡ network_text counts arcs
unfolding network_text concat_map
text-written lent counts arcs =
    ap (λ (l : List ℕ). line_text (line_of_counts counts) ++ l)
    (concat_map-map (line_bytes (network_writer lent)) A arcs)

module _ (lent : ℕ) (counts : Counts) (arcs : List Arc) (o : Orderly lent counts arcs) where
  lines_next : AllNext (network_writer lent) [] (lines_for counts arcs)
  lines_next = (
    counts-next lent counts o.ranged o.wide,
    arcs-next lent counts [] arcs (omega (arith, o.all)) o.known o.in_order,
  )

  pub lines-length : length (network_text counts arcs) ≡ 32 + 32 * counts.arcs
  lines-length =
      let lines : List NetworkLine = lines_for counts arcs in
      ap length (sym (text-written lent counts arcs))
      ∙ text-length (network_writer lent) lines (all-ranged (network_writer lent) [] lines lines_next)
      ∙ omega (arith, length-map arcs A, o.all)

  pub network-read : read_network lent (network_text counts arcs) ≡ answered (lines_for counts arcs)
  unfolding read_network network_kind
  network-read =
      let lines : List NetworkLine = lines_for counts arcs in
      let full : T (network_complete lines) =
      rw (lines-complete counts arcs) (eq→eqb (length arcs) counts.arcs o.all) in
      ap (read_network lent) (sym (text-written lent counts arcs))
      ∙ text-taken (network_writer lent) lines (omega arith) lines_next full

-- every byte of it is a byte
pub network-bytes : (counts : Counts) (arcs : List Arc) → T (every is_byte (network_text counts arcs))
network-bytes counts arcs =
    rw (← text-written 0 counts arcs) (text-bytes (network_writer 0) (lines_for counts arcs))

-- ---- what is read is what was written

module _ (lent : ℕ) (counts : Counts) where
  -- the arcs after those done, of lines that are read
  record After (done : List Arc) (rest : List (List ℕ)) (lines : List NetworkLine) : Type 0 where
    arcs : List Arc
    written : rest ≡ map arc_text arcs
    own : lines ≡ lines_for counts (done ++ arcs)
    all : length (done ++ arcs) ≡ counts.arcs
    known : T (every (arc_known counts) arcs)
    in_order : T (never_descending (done ++ arcs))

  -- none, or one more
  none_after : (at : ℕ) (done : List Arc) (lines : List NetworkLine) → T (never_descending done)
      → read_from (network_kind lent) at (lines_for counts done) [] ≡ answered lines → After done [] lines
  unfolding network_kind every
  none_after at done lines order e =
      let (complete, judged) = lines_end (network_kind lent) at (lines_for counts done) lines e in
      let full : length done ≡ counts.arcs = eqb→eq _ _ (subst T (lines-complete counts done) complete) in
      let same : lines_for counts done ≡ lines = cc in
      record {
        arcs = [];
        written = refl;
        own = rw append-nil (sym same);
        all = rw append-nil full;
        known = tt;
        in_order = rw append-nil order;
      }

  one-after : (done : List Arc) (a : Arc) (rest : List (List ℕ)) (lines : List NetworkLine)
      → T (arc_known counts a) → After (done ++ (a ∷ [])) rest lines → After done (arc_text a ∷ rest) lines
  unfolding every
  one-after done a rest lines known f =
      record {
        arcs = a ∷ f.arcs;
        written = ap (λ (l : List (List ℕ)). arc_text a ∷ l) f.written;
        own = rw (append_snoc done a f.arcs) at f.own;
        all = rw (append_snoc done a f.arcs) at f.all;
        known = (every-cons (arc_known counts) a f.arcs).1 (known, f.known);
        in_order = rw (append_snoc done a f.arcs) at f.in_order;
      }

  arcs-found : (at : ℕ) (done : List Arc) (rest : List (List ℕ)) (lines : List NetworkLine)
      → T (all_of 32 rest) → T (every ends_in_line_feed rest) → T (never_descending done)
      → read_from (network_kind lent) at (lines_for counts done) rest ≡ answered lines → After done rest lines
  unfolding ends_in_line_feed never_descending
  arcs-found at done [] lines sizes feeds order e = none_after at done lines order e
  arcs-found at done (bytes ∷ rest) lines sizes feeds order e =
      let (size, others) = sized-parts 32 bytes rest sizes in
      let (feed, fed) = (every-cons ends_in_line_feed bytes rest).0 feeds in
      let (line, passed, next) = line-passed (network_kind lent) at (lines_for counts done) bytes rest lines e in
      let (a, f) = arc-found lent bytes line size (eqb→eq _ _ feed) counts done passed in
      let more = (T-three (never_descending done) (may_follow done a) true).1 (order, f.follows, tt) in
      let ordered : T (never_descending (done ++ (a ∷ []))) = subst T (sym (order-parts done a [])) more in
      let after = arcs-found (suc at) (done ++ (a ∷ [])) rest lines others fed ordered
      (rw (f.own, lines_more lent counts done a) at next) in
      rw (← f.written) (one-after done a rest lines f.known after)

-- the counts and arcs of a text that is accepted
pub record Found (lent : ℕ) (text : List ℕ) (lines : List NetworkLine) : Type 0 where
  pub counts : Counts
  pub arcs : List Arc
  pub own : lines ≡ lines_for counts arcs
  pub written : text ≡ network_text counts arcs
  pub orderly : Orderly lent counts arcs

-- the W line before its arcs
lines-joined : (counts : Counts) (arcs : List Arc)
    → joined (line_text (line_of_counts counts) ∷ map arc_text arcs) ≡ network_text counts arcs
unfolding network_text concat_map
lines-joined counts arcs =
    ap (λ (l : List ℕ). line_text (line_of_counts counts) ++ l) (sym (concat_map-joined arc_text arcs))

counts-before : (lent : ℕ) (counts : Counts) (rest : List (List ℕ)) (lines : List NetworkLine)
    → T (counts_ranged counts) → arc_size * counts.arcs ≤ lent → After lent counts [] rest lines
    → Found lent (joined (line_text (line_of_counts counts) ∷ rest)) lines
counts-before lent counts rest lines ranged wide f =
    record {
      counts = counts;
      arcs = f.arcs;
      own = f.own;
      written = rw f.written (lines-joined counts f.arcs);
      orderly = record { ranged = ranged; wide = wide; all = f.all; known = f.known; in_order = f.in_order };
    }

lines-found : (lent : ℕ) (rest : List (List ℕ)) (lines : List NetworkLine)
    → T (all_of 32 rest) → T (every ends_in_line_feed rest)
    → read_from (network_kind lent) 1 [] rest ≡ answered lines → Found lent (joined rest) lines
unfolding ends_in_line_feed network_kind network_complete network_line line_of_counts never_descending
lines-found lent [] lines sizes feeds e = absurd (lines_end (network_kind lent) 1 [] lines e).0
lines-found lent (bytes ∷ rest) lines sizes feeds e =
    let (size, others) = sized-parts 32 bytes rest sizes in
    let (feed, fed) = (every-cons ends_in_line_feed bytes rest).0 feeds in
    let (line, passed, next) = line-passed (network_kind lent) 1 [] bytes rest lines e in
    let (counts, c) = counts-found lent bytes line size (eqb→eq _ _ feed) passed in
    let after = arcs-found lent counts 2 [] rest lines others fed tt (rw c.own at next) in
    rw (← c.written) (counts-before lent counts rest lines c.ranged c.wide after)

pub network-found : (lent : ℕ) (text : List ℕ) (lines : List NetworkLine)
    → read_network lent text ≡ answered lines → Found lent text lines
unfolding read_network whole_lines
network-found lent text lines e =
    let (whole, read) = text-lines (network_kind lent) text lines e in
    let (_, even, feeds) =
    (T-three (ltb 0 (length text)) (eqb (length text % 32) 0) (every ends_in_line_feed (lines_of text))).0 whole in
    let found = lines-found lent (lines_of text) lines (text-sized text) feeds read in
    rw (text-writes text (eqb→eq _ _ even)) at found
