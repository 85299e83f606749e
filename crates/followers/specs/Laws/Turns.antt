-- Laws about the metastate whose turn it is: what its record says, and its matrix shifted.
use Rattle.std.specs.Prelude.{◌≡◌, List, ℕ, ◌*◌, ◌≤◌, ◌<◌, min, length, get_or}
use Rattle.std.proofs.Common.{ap, ◌∙◌, arith}
use Rattle.definitions.specs.declared.Header.{Header}
use Rattle.definitions.specs.PhoneSets.{all_phones}
use Rattle.definitions.specs.Matrices.{matrix_words, shift}
use Rattle.definitions.specs.Tables.{Book}
use Rattle.definitions.specs.Combinations.{Combination}
use Rattle.definitions.specs.Metastates.{Metastate, metastate_size}
use Rattle.definitions.specs.Connecting.{Network, no_metastate}
use Rattle.definitions.specs.Ranges.{InRange}
use Rattle.definitions.proofs.Laws.Matrices.Matrices.{shift-length}
use Rattle.definitions.proofs.Laws.Books.AcceptedKnown.{header-ranges}
use Rattle.matrix.specs.Shapes.{width_of, matrix_in, HasWidth, shifted_words}
use Rattle.matrix.specs.Laws.Shapes.{shift-words}
use Rattle.matrix.specs.Laws.Widths.{matrix-back, has_width}
use Rattle.index.specs.declared.Follower.{Follower}
use Rattle.index.specs.RecordWords.{RecordWithin, IsMetastate}
use Rattle.index.specs.Combinations.{combinations_in, nodes_book, Connectable}
use Rattle.growing.specs.declared.Sizes.{Sizes}
use Rattle.growing.specs.Steps.{arc_room, sizes_of}
use Rattle.growing.specs.Laws.Steps.{held-sizes}
use Rattle.metastates.specs.Networks.{metastate_code, network_held}
use Rattle.metastates.specs.Underway.{Placed, Underway}
use Rattle.metastates.specs.Laws.HeldRows.{metastates-few, held-within, arcs-within, held_in, held-wide}
use Rattle.metastates.specs.Laws.HeldRows.{held_number, held-matrix}
use Rattle.followers.specs.Turns.{Expandable}

module _ {header : Header} {nodes combinations index metastates arcs chains spans : List ℕ} {sizes : Sizes}
    {place : ℕ} (s : Expandable header nodes combinations index metastates arcs chains spans sizes place)
  where
    pub connectable : Connectable header nodes combinations
    connectable = s.between.searchable.connectable

    pub underway : Underway header combinations sizes metastates arcs chains
    underway = s.between.underway

    abbrev book : Book
    book = nodes_book header nodes

    abbrev cs : List Combination
    cs = combinations_in header combinations

    abbrev net : Network
    net = network_held header.half sizes metastates arcs

    abbrev x : Metastate
    x = get_or net.table place no_metastate

    pub ranges : InRange header
    ranges = header-ranges header connectable.usable.header-known

    pub thin : header.half ≤ 3
    thin = ranges.half_range.high

    pub asked : sizes_of net ≡ sizes
    asked = held-sizes (metastate_code header.half) sizes metastates arcs

    pub arcs-asked : length net.arcs ≡ sizes.arcs
    arcs-asked = ap (λ (z : Sizes). z.arcs) asked

    pub inside : place < length net.table
    inside = omega (arith, s.listed, ap (λ (z : Sizes). z.table) asked)

    -- ---- the record of the metastate

    pub place_few : place < 65535
    place_few = omega (arith, inside, metastates-few underway)

    pub place-within : RecordWithin (metastate_size header.half) metastates place
    place-within = held-within underway place inside

    pub number-known : x.number < length cs
    number-known = underway.numbers x (held_in underway place inside)

    pub x-width : length x.carried ≡ width_of header.half
    x-width = held-wide underway place inside thin

    pub arcs-fit : sizes.arcs ≤ arc_room arcs
    arcs-fit = omega (arith, arcs-asked, arcs-within underway)

    -- ---- what is read there

    module _ {q : Follower} (is : IsMetastate header.half metastates place q) where
      abbrev columns : List ℕ
      columns = q.met.columns

      pub expand-placed : Placed header nodes combinations q.number place
      expand-placed =
          record {
            connectable = connectable;
            listed = rw (held_number underway place inside thin is) number-known;
            few = place_few;
          }

      pub columns_are : columns ≡ matrix_words x.carried
      columns_are = held-matrix underway place inside thin is

      pub matrix-is : matrix_in header.half columns ≡ x.carried
      matrix-is = matrix-back x.carried x-width columns_are

      -- ---- and shifted

      module _ {half all : ℕ} {shifted : List ℕ} (l : half ≡ header.half)
          (a : all ≡ all_phones (min header.phones 64))
          (f : shifted ≡ shifted_words (2 * half) all q.met.columns)
        where
          shifted-are : shifted ≡ matrix_words (shift header.phones x.carried)
          shifted-are =
              let phones : min header.phones 64 ≡ header.phones =
              omega (arith, ranges.phones_range.high) in
              f ∙ rw (l, a, phones, columns_are)
              (shift-words header.phones (2 * header.half) x.carried (omega (arith, thin))
              (omega (arith, x-width)))

          shifted-length : length (shift header.phones x.carried) ≡ width_of header.half
          shifted-length = shift-length header.phones x.carried (omega (arith, x-width)) ∙ x-width

          pub shifted-is : matrix_in header.half shifted ≡ shift header.phones x.carried
          shifted-is = matrix-back (shift header.phones x.carried) shifted-length shifted-are

          pub shifted-wide : HasWidth (width_of header.half) shifted
          shifted-wide = has_width (shift header.phones x.carried) shifted-length shifted-are
