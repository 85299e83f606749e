-- A combination's number and matrix determine a metastate's place, in every network that a build answers with,
-- finished or stopped: no metastate stands in its table twice.
use Rattle.std.specs.Prelude.{◌≡◌, List, ℕ, ◌<◌, length, get_or}
use Rattle.definitions.specs.Faults.{answered}
use Rattle.definitions.specs.Metastates.{Metastate}
use Rattle.definitions.specs.Growing.{Room, grown_in}
use Rattle.definitions.specs.Connecting.{Rules, Built, no_metastate, connect}
use Rattle.definitions.proofs.Laws.Lists.Members.{same_place}
use Rattle.definitions.proofs.Laws.Networks.Metastates.{metastates-equal}
use Rattle.definitions.proofs.Construction.Finished.{build-expanded}

module _ (rules : Rules) (room : Room) (limit : ℕ) (built : Built)
    (answers : connect rules room limit ≡ answered built)
  where
    abbrev table_of : List Metastate
    table_of = (grown_in built).table

    pub number-and-matrix-place : (i j : ℕ) → i < length table_of → j < length table_of
        → (get_or table_of i no_metastate).number ≡ (get_or table_of j no_metastate).number
        → (get_or table_of i no_metastate).carried ≡ (get_or table_of j no_metastate).carried → i ≡ j
    number-and-matrix-place i j h k f g =
        let (turns, left) = build-expanded rules room limit built answers in
        same_place table_of no_metastate left.once i j h k (metastates-equal _ _ f g)
