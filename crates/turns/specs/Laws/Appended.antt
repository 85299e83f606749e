-- Laws about arcs appended: whether they had room, and a network held in lent words with them.
use Rattle.std.specs.Prelude.{◌≡◌, List, ◌++◌, ℕ, ◌+◌, ◌*◌, ◌≤◌, ◌<◌, T, leb, is_ok, Result, Ok, Err}
use Rattle.std.proofs.Common.{sym, ◌∙◌, ap, subst, leb-true, leb-false}
use Rattle.std.proofs.Math.ListN.{length, take, drop}
use Rattle.definitions.specs.declared.Fault.{Fault}
use Rattle.definitions.specs.declared.Fault.TheVariants.{Tangle}
use Rattle.definitions.specs.Arcs.{Arc, arc_size, arc_words}
use Rattle.definitions.specs.Building.{room_in}
use Rattle.definitions.specs.Connecting.{Network}
use Rattle.definitions.proofs.Laws.Lists.Records.{flat-length, arc-sized}
use Rattle.definitions.proofs.Laws.Lists.Tests.{by-test}
use Rattle.growing.specs.declared.Sizes.{Sizes}
use Rattle.growing.specs.Steps.{arc_room}
use Rattle.growing.specs.Laws.KeptMore.{with_arcs, put-arcs}
use Rattle.metastates.specs.Networks.{Holds}
use Rattle.metastates.specs.Laws.HeldBack.{holds-arcs}
use Rattle.turns.specs.declared.Arcs.{Arcs}
use Rattle.turns.specs.Arcs.{AreArcs, ArcsAdded}

-- they had no room, or they had
module _ {sizes : Sizes} {new : Arcs} {arcs arcs' : List ℕ} {answer : Result Sizes Fault}
    (a : ArcsAdded sizes new arcs answer arcs') where
  pub added-none : {fault : Fault} → answer ≡ Err fault
      → (arc_room arcs < sizes.arcs + new.count) × (arcs' ≡ arcs) × (Tangle ≡ fault)
  added-none {fault} e =
      by-test (leb (sizes.arcs + new.count) (arc_room arcs))
      (λ t. absurd (subst T (ap is_ok (sym (rw t at a.answers) ∙ e)) tt))
      (λ t.
      let same : ◌≡◌ {A = Result Sizes Fault} (Err Tangle) (Err fault) = sym (rw t at a.answers) ∙ e in
      (leb-false (sizes.arcs + new.count) (arc_room arcs) t, (rw t at a.words), cc))

  pub added-all : {next : Sizes} → answer ≡ Ok next
      → (sizes.arcs + new.count ≤ arc_room arcs)
      × (arcs'
      ≡ take (arc_size * sizes.arcs) arcs ++ take (arc_size * new.count) new.words
      ++ drop (arc_size * sizes.arcs + arc_size * new.count) arcs)
      × (record { table = sizes.table; arcs = sizes.arcs + new.count } ≡ next)
  added-all {next} e =
      by-test (leb (sizes.arcs + new.count) (arc_room arcs))
      (λ t.
      let same : ◌≡◌ {A = Result Sizes Fault} (Ok (record { table = sizes.table; arcs = sizes.arcs + new.count }))
      (Ok next) = sym (rw t at a.answers) ∙ e in
      (leb-true (sizes.arcs + new.count) (arc_room arcs) t, (rw t at a.words), cc))
      (λ t. absurd (subst T (sym (ap is_ok (sym (rw t at a.answers) ∙ e))) tt))

module _ {half count : ℕ} {net : Network} {metastates arcs chains : List ℕ}
    (holds : Holds half count net metastates arcs chains)
  where
    module _ (new : Arcs) (added : List Arc) (are : AreArcs new added)
        (room : length net.arcs + length added ≤ arc_room arcs)
      where
        abbrev more : List ℕ
        more = take (arc_size * new.count) new.words

        abbrev appended : List ℕ
        appended =
            take (arc_size * length net.arcs) arcs ++ more
            ++ drop (arc_size * length net.arcs + arc_size * new.count) arcs

        more-length : length more ≡ arc_size * new.count
        unfolding arc_words
        more-length =
            ap length are.worded ∙ flat-length arc_words arc_size arc-sized added
            ∙ ap (λ (k : ℕ). arc_size * k) (sym are.counted)

        whole : (length appended ≡ length arcs) × Holds half count (with_arcs net added) metastates appended chains
        unfolding room_in
        whole =
            holds-arcs holds added room
            (put-arcs holds.kept added are.worded room
            (ap (λ (k : ℕ). take (arc_size * length net.arcs) arcs ++ more
            ++ drop (arc_size * length net.arcs + k) arcs) (sym more-length)))

        pub appended-length : length appended ≡ length arcs
        appended-length = whole.0

        pub holds-appended : Holds half count (with_arcs net added) metastates appended chains
        holds-appended = whole.1
