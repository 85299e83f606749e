-- Laws about performing events: plain arcs are all appended where they have room, else refused.
use Rattle.std.specs.Prelude.{◌≡◌, ◌+◌, ◌≤◌, ◌<◌, ltb}
use Rattle.std.proofs.Common.{sym, ◌∙◌, arith}
use Rattle.std.proofs.Math.Path.{ap}
use mathlib.Core.List.{List, [], ◌∷◌, map, append-nil, append_assoc}
use Rattle.std.proofs.Math.ListN.{length, length-append}
use borrow.Author.Tests.{lt-ltb, ltb-true, ltb-false}
use Rattle.definitions.specs.declared.Fault.TheVariants.{Tangle}
use Rattle.definitions.specs.Faults.{Outcome, answered, refuse, and_then}
use Rattle.definitions.specs.Arcs.{Arc}
use Rattle.definitions.specs.Tables.{Book}
use Rattle.definitions.specs.Combinations.{Combination}
use Rattle.definitions.specs.Metastates.{Metastate}
use Rattle.definitions.specs.Growing.{Event, plain, Room, add_arc, perform, perform_all}
use Rattle.definitions.specs.Connecting.{Network, machine_of}
use Rattle.definitions.proofs.Laws.Lists.Tests.{by-test}
use Rattle.definitions.proofs.Laws.Networks.Limits.{with_arc, no-room-arc}
use Rattle.growing.specs.Laws.KeptMore.{with_arcs}

module _ (book : Book) (combinations : List Combination) (room : Room) where
  abbrev all : List (Event Metastate) → Network → Outcome Network
  all events next = perform_all (machine_of book combinations) room next events

  arc-fits : (net : Network) (a : Arc) → length net.arcs < room.arcs
      → add_arc room a net ≡ answered (with_arc net a)
  unfolding add_arc
  arc-fits net a h = rw (lt-ltb (length net.arcs) room.arcs h)

  pub performs-arcs : (net : Network) (arcs : List Arc) → length net.arcs + length arcs ≤ room.arcs
      → perform_all (machine_of book combinations) room net (map plain arcs) ≡ answered (with_arcs net arcs)
  unfolding perform_all perform and_then
  performs-arcs net [] h =
      ap (λ (l : List Arc). answered (record { table = net.table; arcs = l }))
      (sym (append-nil net.arcs))
  performs-arcs net (a ∷ arcs) h =
      ap (λ (o : Outcome Network). and_then o (all (map plain arcs))) (arc-fits net a (omega arith))
      ∙ performs-arcs (with_arc net a) arcs (omega (arith, length-append net.arcs (a ∷ [])))
      ∙ ap (λ (l : List Arc). answered (record { table = net.table; arcs = l }))
      (append_assoc net.arcs (a ∷ []) arcs)

  pub performs-over : (net : Network) (arcs : List Arc) → length net.arcs ≤ room.arcs
      → room.arcs < length net.arcs + length arcs
      → perform_all (machine_of book combinations) room net (map plain arcs) ≡ refuse Tangle 0
  unfolding perform_all perform and_then
  performs-over net [] h k = absurd (omega arith)
  performs-over net (a ∷ arcs) h k =
      by-test (ltb (length net.arcs) room.arcs)
      (λ t.
      let fits : length net.arcs < room.arcs = ltb-true (length net.arcs) room.arcs t in
      let more = length-append net.arcs (a ∷ []) in
      ap (λ (o : Outcome Network). and_then o (all (map plain arcs))) (arc-fits net a fits)
      ∙ performs-over (with_arc net a) arcs (omega (arith, more)) (omega (arith, more)))
      (λ t.
      ap (λ (o : Outcome Network). and_then o (all (map plain arcs)))
      (no-room-arc room net a (ltb-false (length net.arcs) room.arcs t)))
