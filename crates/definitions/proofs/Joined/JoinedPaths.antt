-- The whole path theorem of joined networks. What it says is in specs/JoinedPaths.antt.
use Rattle.std.specs.Prelude.{◌≡◌, ℕ, T, length}
use mathlib.Core.Logic.Iff
use mathlib.Core.List.{List}
use Rattle.std.proofs.Common.{lit<}
use Rattle.definitions.specs.declared.Counts.{Counts}
use Rattle.definitions.specs.Faults.{answered}
use Rattle.definitions.specs.BookLines.{BookLine}
use Rattle.definitions.specs.Arcs.{Arc, arcs_in}
use Rattle.definitions.specs.Growing.{Grown, Room}
use Rattle.definitions.specs.Paths.{final_last}
use Rattle.definitions.specs.WordBooks.{words_in, words_known}
use Rattle.definitions.specs.Joining.{spoken, Joined, join_in, JoinSpace, join_room, join, join_left}
use Rattle.definitions.proofs.Laws.Lists.Records.{arcs-read}
use Rattle.definitions.proofs.Laws.Text.Judging.{passes_at, judge-answered}
use Rattle.definitions.specs.Demand.{Demand3}
use Rattle.definitions.proofs.Joined.Finishing.{join-finishes}
use Rattle.definitions.proofs.Joined.Words.{words-speakable}
use Rattle.definitions.proofs.Joined.Laid.{place_in, laid}
use Rattle.definitions.proofs.Joined.Exactly.{laid-exactly}
use Rattle.definitions.specs.JoinedPaths.{JoinedPaths}

-- For every network, table of words and space:
module _ (counts : Counts) (arcs : List ℕ) (count : ℕ) (table : List ℕ) (space : JoinSpace) where
  abbrev network : List Arc
  network = arcs_in counts.arcs arcs

  -- the table is one that reading leaves, and its words are joined
  answered-by : (net : Grown Joined) → join counts arcs count table space ≡ answered net
      → T (words_known count table) × (join_in network (words_in count table) (join_room space) ≡ answered net)
  unfolding join
  answered-by net e =
      let (known, joins) = judge-answered 0 _ _ net e in
      (passes_at _ known 1 (lit< tt), joins)

  pub joined-paths : (lines : List BookLine) (net : Grown Joined) → Demand3 lines counts arcs
      → T (final_last network) → join counts arcs count table space ≡ answered net
      → JoinedPaths lines (words_in count table) (length net.arcs) (join_left space (answered net)).arcs
  unfolding join_left
  joined-paths lines net demand last e =
      let words : List (List ℕ) = words_in count table in
      let room : Room = join_room space in
      let (known, joins) = answered-by net e in
      let (turns, built) = join-finishes network words room net joins in
      let lays = laid network words room room.table turns net built in
      let speakable = words-speakable count table known in
      record {
        exactly = λ M W.
            rw (arcs-read space.arcs net.arcs)
            (Iff.trans
            (laid-exactly words speakable network last net.table (place_in net) net.arcs lays M W)
            (Iff.and Iff.rfl (demand.exactly M (spoken words W))));
      }
