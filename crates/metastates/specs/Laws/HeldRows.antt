-- Laws about a network held in lent words: its room, and the record of the metastate at a place.
use Rattle.std.specs.Prelude.{◌≡◌, ℕ, ◌≤◌, ◌<◌, length, drop, get_or}
use Rattle.std.proofs.Math.Path.{ap}
use Rattle.std.proofs.Common.{◌∙◌, arith}
use mathlib.Core.List.{List}
use Rattle.definitions.specs.Lists.{◌!◌, IsIn}
use Rattle.definitions.specs.Matrices.{matrix_words}
use Rattle.definitions.specs.Metastates.{Metastate, metastate_size, metastate_words}
use Rattle.definitions.specs.Building.{room_in}
use Rattle.definitions.specs.Connecting.{Network, no_metastate}
use Rattle.definitions.proofs.Laws.Lists.Members.{in-at}
use Rattle.definitions.proofs.Laws.Lists.Records.{record-within}
use Rattle.matrix.specs.Shapes.{width_of}
use Rattle.matrix.specs.Words.{first_seven}
use Rattle.matrix.specs.Laws.Words.{record-seven}
use Rattle.index.specs.declared.Follower.{Follower}
use Rattle.index.specs.RecordWords.{record_of, RecordWithin, IsMetastate}
use Rattle.growing.specs.Steps.{arc_room}
use Rattle.growing.specs.Laws.KeptBack.{kept-words}
use Rattle.metastates.specs.Laws.HeldBack.{coded-wide}
use Rattle.metastates.specs.Networks.{Holds}

module _ {half count : ℕ} {net : Network} {metastates arcs chains : List ℕ}
    (holds : Holds half count net metastates arcs chains)
  where
    -- ---- the room

    pub metastates-few : length net.table ≤ 65535
    unfolding room_in
    metastates-few = omega (arith, holds.kept.table-room)

    pub arcs-within : length net.arcs ≤ arc_room arcs
    unfolding room_in
    arcs-within = holds.kept.arc-room

    -- ---- the metastate at a place

    module _ (place : ℕ) (h : place < length net.table) where
      abbrev x : Metastate
      x = get_or net.table place no_metastate

      pub held_in : IsIn x net.table
      held_in = in-at net.table place no_metastate h

      -- its record stands in the words
      pub held-within : RecordWithin (metastate_size half) metastates place
      unfolding room_in
      held-within =
          record-within (metastate_size half) place (omega (arith, h, holds.kept.table-room))

      pub held-wide : half ≤ 3 → length x.carried ≡ width_of half
      held-wide few = coded-wide half few (holds.kept.coded x held_in)

      -- what is read there is the metastate
      module _ (few : half ≤ 3) {q : Follower} (is : IsMetastate half metastates place q) where
        held-record : record_of (metastate_size half) metastates place ≡ metastate_words half x
        held-record = kept-words holds.kept h

        pub held_number : q.number ≡ x.number
        unfolding metastate_words
        held_number = is.number_is ∙ ap (λ (l : List ℕ). l ! 0) held-record

        pub held-matrix : q.met.columns ≡ matrix_words x.carried
        unfolding metastate_words
        held-matrix =
            is.columns_are ∙ ap (λ (l : List ℕ). first_seven (drop 1 l)) held-record
            ∙ record-seven half few x.carried (held-wide few)
