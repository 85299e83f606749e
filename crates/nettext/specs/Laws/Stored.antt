-- Laws about what is stored: each line that is taken brings the lent arcs from what the lines before it leave
-- to what the lines with it leave. The idea: the lent arcs are the arcs read, with zeros after them.
use Rattle.std.specs.Prelude.{◌≡◌, List, [], ◌∷◌, ◌++◌, ℕ, length}
use Rattle.std.proofs.Common.{append-nil, arith}
use Rattle.definitions.specs.Arcs.{arc_size, arc_words}
use Rattle.definitions.specs.Lists.{concat_map, cleared}
use Rattle.definitions.specs.NetworkText.{NetworkLine, W, A, arc_in_line, arcs_of}
use Rattle.definitions.proofs.Laws.Lists.Lists.{concat_map-snoc, padded-length}
use Rattle.definitions.proofs.Laws.Lists.Records.{flat-length, arc-sized}
use Rattle.lines.specs.Laws.Putting.{put-after, padded-zeros}
use Rattle.nettext.specs.Storing.{arcs_after, arcs_stored}
use Rattle.nettext.specs.Laws.States.{arcs-more}
use Rattle.nettext.specs.Laws.Keeping.{Kept}

pub stored-none : (lent : ℕ) → arcs_stored lent [] ≡ cleared lent
unfolding arcs_stored arcs_of concat_map
stored-none lent = padded-zeros lent 0 (omega arith)

pub stored_more : (lent : ℕ) (before : List NetworkLine) (line : NetworkLine)
    → arcs_after (length (arcs_of before)) line (arcs_stored lent before) ≡ arcs_stored lent (before ++ (line ∷ []))
unfolding arcs_stored arc_in_line
stored_more lent before (W states metastates arcs) = rw (arcs-more, append-nil)
stored_more lent before (A a) =
    rw (
      arcs-more,
      concat_map-snoc arc_words (arcs_of before) a,
      ← flat-length arc_words arc_size arc-sized (arcs_of before),
    )
    (put-after lent (concat_map arc_words (arcs_of before)) (arc_words a))

pub stored-length : (lent : ℕ) (before : List NetworkLine) → Kept lent before
    → length (arcs_stored lent before) ≡ lent
unfolding arcs_stored
stored-length lent before k =
    let words = flat-length arc_words arc_size arc-sized (arcs_of before) in
    padded-length lent (concat_map arc_words (arcs_of before)) (omega (arith, words, k.wide, k.arcs))
