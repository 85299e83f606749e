-- What a build answers, and the lent slices of its contract.
use Rattle.std.specs.Prelude.{List, Bool, true, false, ℕ, length, Result}
use Rattle.definitions.specs.declared.Header.{Header}
use Rattle.definitions.specs.declared.Refusal.{Refusal}
use Rattle.definitions.specs.Growing.{finished, stopped}
use Rattle.definitions.specs.Connecting.{Network, Built}
use Rattle.definitions.specs.Tables.{Tables, tables_book}
use Rattle.definitions.specs.Building.{Space, Buffers, build, buffers_left, counts_in}
use Rattle.definitions.specs.Said.{Said, result_of, result_said, Progress, no_progress}
use Rattle.network.specs.declared.Totals.{Totals}
use Rattle.network.specs.declared.Build.{Build}
use Rattle.network.specs.declared.Build.TheVariants as build

-- "with the turns done and the counts of metastates and arcs", with k
unfoldable pub totals_of : (states turns : ℕ) → Network → Totals
totals_of states turns net = record { turns = turns; counts = counts_in states net }

abbrev pub build_of : (states : ℕ) → Built → Build
build_of states (finished turns net) = build.Finished (totals_of states turns net)
build_of states (stopped turns net) = build.Stopped (totals_of states turns net)

-- how far the build came
abbrev pub so_far : (done : Bool) → Totals → Progress
so_far done totals = record { finished = done; turns = totals.turns; counts = totals.counts }

abbrev pub came_to : Build → Progress
came_to (build.Finished totals) = so_far true totals
came_to (build.Stopped totals) = so_far false totals

-- and number and line
abbrev pub build_said : Result Build Refusal → Said Progress
build_said = result_said came_to no_progress

-- the three lent slices of a build: their lengths, and what is left in them
abbrev pub lent_space : (combinations metastates arcs : List ℕ) → Space
lent_space combinations metastates arcs =
    record { combinations = length combinations; metastates = length metastates; arcs = length arcs }

abbrev pub lent_buffers : (combinations metastates arcs : List ℕ) → Buffers
lent_buffers combinations metastates arcs =
    record { combinations = combinations; metastates = metastates; arcs = arcs }

-- what a build from lent tables and space answers, and what it leaves in the space
abbrev pub build_answer : Header → Tables → Space → (limit : ℕ) → Result Build Refusal
build_answer header tables space limit = result_of (build_of header.states) (build header tables space limit)

abbrev pub build_left : Header → Tables → Space → (limit : ℕ) → Buffers
build_left header tables space limit =
    buffers_left (tables_book header tables) space (build header tables space limit)
