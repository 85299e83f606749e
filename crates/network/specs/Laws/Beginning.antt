-- Laws about the start of a build: nothing is held yet, and the start metastates are entered as followers of
-- silence with silence to its left.
use Rattle.definitions.specs.declared.Fault.{Fault}
use Rattle.std.specs.Prelude.{◌≡◌, refl, ℕ, min, length, take, Result}
use Rattle.std.proofs.Math.Path.{sym, subst}
use Rattle.std.proofs.Common.{ap, ◌∙◌, arith}
use mathlib.Core.List.{List}
use Rattle.definitions.specs.declared.Header.{Header}
use Rattle.definitions.specs.Lists.{records}
use Rattle.definitions.specs.PhoneSets.{all_phones}
use Rattle.definitions.specs.Arcs.{arcs_in}
use Rattle.definitions.specs.Matrices.{Matrix, most_columns, matrix_words}
use Rattle.definitions.specs.Combinations.{Combination}
use Rattle.definitions.specs.Metastates.{Metastate, starts, followers_from}
use Rattle.definitions.specs.Connecting.{start_events, Network, no_network}
use Rattle.definitions.proofs.Laws.Books.AcceptedKnown.{header-ranges}
use Rattle.tables.specs.Usable.{book_with}
use Rattle.matrix.specs.Laws.Shapes.{around-length, around-words}
use Rattle.matrix.specs.Shapes.{width_of, matrix_in, HasWidth, columns_around}
use Rattle.matrix.specs.Laws.Widths.{matrix-back, has_width}
use Rattle.index.specs.Combinations.{combinations_in, Usable}
use Rattle.growing.specs.declared.Sizes.{Sizes}
use Rattle.metastates.specs.Networks.{network_held, Holds}
use Rattle.metastates.specs.Outcomes.{entering_all, followed_from, started_in}
use Rattle.metastates.specs.Steps.{StepLeft}
use Rattle.network.specs.Laws.Starting.{before_start, starts-follow}

-- no records hold no network
abbrev none : Sizes
none = record { table = 0; arcs = 0 }

none-held : (half : ℕ) (metastates arcs : List ℕ) → network_held half none metastates arcs ≡ no_network
unfolding arcs_in records
none-held half metastates arcs = refl

pub holds-none : {half count : ℕ} {metastates arcs chains : List ℕ}
    → Holds half count no_network metastates arcs chains
    → Holds half count (network_held half none metastates arcs) metastates arcs chains
holds-none {half} {count} {metastates} {arcs} {chains} h =
    subst (λ (net : Network). Holds half count net metastates arcs chains)
    (sym (none-held half metastates arcs)) h

module _ {header : Header} {combinations : List ℕ} (usable : Usable header combinations) (all : ℕ)
    {columns : List ℕ} (e : columns ≡ take most_columns (matrix_words (columns_around header.half 1 1 all)))
  where
    before-words : columns ≡ matrix_words (columns_around header.half 1 1 all)
    before-words =
        e ∙ around-words header.half 1 1 all (header-ranges header usable.header-known).half_range.high

    before-length : length (columns_around header.half 1 1 all) ≡ width_of header.half
    before-length = omega (arith, around-length header.half 1 1 all)

    -- the matrix before the start, with any set in its right columns
    pub before-wide : HasWidth (width_of header.half) columns
    before-wide = has_width (columns_around header.half 1 1 all) before-length before-words

    abbrev cs : List Combination
    cs = combinations_in header combinations

    -- where all phones stand there, the start metastates are entered
    columns-is : all ≡ all_phones (min header.phones 64) → matrix_in header.half columns ≡ before_start header
    columns-is a =
        let phones : min header.phones 64 ≡ header.phones =
        omega (arith, (header-ranges header usable.header-known).phones_range.high) in
        matrix-back (columns_around header.half 1 1 all) before-length before-words
        ∙ ap (columns_around header.half 1 1) (a ∙ ap all_phones phones)

    pub started : all ≡ all_phones (min header.phones 64) → (nodes : List ℕ)
        {metastates arcs chains metastates' arcs' chains' : List ℕ} {answer : Result Sizes Fault}
        → StepLeft header combinations metastates arcs chains
        (followed_from header nodes combinations metastates arcs none 0 columns)
        answer metastates' arcs' chains'
        → StepLeft header combinations metastates arcs chains
        (started_in header nodes combinations metastates arcs) answer metastates' arcs' chains'
    unfolding start_events starts book_with arcs_in records
    started a nodes {metastates} {arcs} {chains} {metastates'} {arcs'} {chains'} {answer} left =
        subst (λ (l : List Metastate).
        StepLeft header combinations metastates arcs chains
        (entering_all header nodes combinations 0 metastates arcs no_network l)
        answer metastates' arcs' chains')
        (ap (λ (m : Matrix). followers_from m 0 cs) (columns-is a)
        ∙ sym (starts-follow header cs usable.each)) left
