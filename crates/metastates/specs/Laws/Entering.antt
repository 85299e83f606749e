-- Laws about the arc from a state into a metastate: what the calls of the code ask, and what each answer leaves.
use Rattle.definitions.specs.declared.Fault.{Fault}
use Rattle.std.specs.Prelude.{◌≡◌, Option, Some, None, ℕ, ◌+◌, ◌*◌, ◌≤◌, ◌<◌, Result, Err}
use Rattle.std.proofs.Math.Path.{refl, ap, subst}
use Rattle.std.proofs.Common.{sym, ◌∙◌, arith}
use Rattle.std.proofs.Math.Logic.{⊎_elim}
use mathlib.Core.List.{List, [], ◌∷◌, ◌++◌}
use Rattle.std.proofs.Math.ListN.{length, take, drop}
use Rattle.definitions.specs.declared.Fault.TheVariants.{Crowd}
use Rattle.definitions.specs.declared.Header.{Header}
use Rattle.definitions.specs.Faults.{Outcome, answered, and_then}
use Rattle.definitions.specs.Lists.{concat_map, IsIn}
use Rattle.definitions.specs.Metastates.{Metastate, metastate_size, phone_of, combination_of, models_of}
use Rattle.definitions.specs.Building.{room_in}
use Rattle.definitions.specs.Growing.{Machine, enter, Room, perform_all}
use Rattle.definitions.specs.Connecting.{arc_into, Network}
use Rattle.definitions.proofs.Construction.Performing.{entered_by, Performed, all-performed}
use Rattle.definitions.proofs.Laws.Lists.Members.{of-append, of-single}
use Rattle.definitions.proofs.Laws.Lists.Records.{record-within}
use Rattle.definitions.proofs.Laws.Text.Judging.{pass-none}
use Rattle.definitions.proofs.Laws.Networks.Metastates.{metastates-told}
use Rattle.index.specs.declared.Follower.{Follower}
use Rattle.index.specs.Combinations.{combinations_in, machine_in}
use Rattle.index.specs.Laws.Followers.{narrow}
use Rattle.growing.specs.declared.Sizes.{Sizes}
use Rattle.growing.specs.Chains.{elements_in, heads_in, linked_to, Findable, Found}
use Rattle.growing.specs.Steps.{arc_room, ArcAdded}
use Rattle.growing.specs.Steps as steps
use Rattle.growing.specs.Laws.Entering as growing
use Rattle.growing.specs.Laws.Entering.{with_one}
use Rattle.metastates.specs.Networks.{metastate_code, network_held, metastate_room, room_of, HasPlace, NumbersBelow}
use Rattle.metastates.specs.Underway.{Placed, Entering}
use Rattle.metastates.specs.Outcomes.{metastate_of, entered}
use Rattle.metastates.specs.Steps.{StepLeft, into_arc, MetastateAdded}
use Rattle.metastates.specs.Laws.HeldBack.{metastate-coded, metastate-wide, metastate-key, metastate-row}

module _ {header : Header} {nodes words metastates arcs chains : List ℕ} {sizes : Sizes} {follower : Follower}
    (s : Entering header nodes words metastates arcs chains sizes follower) where
  abbrev number : ℕ
  number = follower.number

  abbrev columns : List ℕ
  columns = follower.met.columns

  abbrev half : ℕ
  half = header.half

  abbrev room : Room
  room = room_of half metastates arcs

  abbrev x : Metastate
  x = metastate_of half follower

  few : half ≤ 3
  few = narrow s.connectable.usable

  underway : steps.Underway (metastate_code half) room sizes metastates arcs chains
  unfolding room_in
  underway = record { kept = s.underway.kept; whole = refl }

  -- ---- what the calls ask

  pub enter-used : metastate_size half * sizes.table ≤ length metastates
  enter-used = growing.enter-used underway

  pub enter-searchable : Findable (metastate_code half) (take (metastate_size half * sizes.table) metastates) chains
  enter-searchable = growing.enter-searchable underway (omega arith)

  pub enter-arcs : sizes.arcs ≤ arc_room arcs
  enter-arcs = growing.enter-arcs underway

  -- the record and the link of a new one
  pub enter-place-for : sizes.table < metastate_room half metastates
      → HasPlace half metastates chains sizes.table
  unfolding room_in
  enter-place-for h =
      record {
        within = record-within (metastate_size half) sizes.table (omega (arith, h));
        link = omega (arith, h, s.underway.kept.link-room);
        few = omega (arith, h);
        narrow = few;
      }

  -- ---- each answer

  abbrev machine : Machine Metastate Metastate
  machine = machine_in header nodes words

  abbrev net : Network
  net = network_held half sizes metastates arcs

  module _ (from : ℕ) {found : Option ℕ}
      (f : Found (metastate_code half)
      (elements_in (metastate_code half) (take (metastate_size half * sizes.table) metastates))
      (metastate_of half follower) found) where
    abbrev outcome : Outcome Network
    outcome = entered header nodes words metastates arcs sizes from follower

    -- whatever is answered, no metastate is new but the one that is entered
    numbers_stay : (next : Network) → outcome ≡ answered next
        → NumbersBelow (length (combinations_in header words)) next.table
    unfolding perform_all and_then concat_map entered_by
    numbers_stay next e y i =
        let p : Performed machine net (enter from x ∷ []) next =
        all-performed machine metastates-told room net (enter from x ∷ []) next
        (ap (λ (o : Outcome Network). and_then o answered) e) in
        ⊎_elim (s.underway.numbers y)
        (λ j. subst (λ z. z.number < length (combinations_in header words)) (sym (of-single x y (p.more_entered y j)))
        s.listed)
        (of-append y net.table p.more (subst (IsIn y) p.grown i))

    abbrev Left : Result Sizes Fault → (metastates' arcs' chains' : List ℕ) → Type 0
    Left answer metastates' arcs' chains' =
        StepLeft header words metastates arcs chains outcome answer metastates' arcs' chains'

    pub enter-placed : {place : ℕ} → found ≡ Some place → Placed header nodes words follower.number place
    unfolding room_in
    enter-placed n =
        let place = growing.enter-place underway machine metastates-told from x pass-none (omega arith) f n in
        record {
          connectable = s.connectable;
          listed = s.listed;
          few = omega (arith, place, growing.enter-few underway);
        }

    -- it stands in the table
    pub enter-known : {place : ℕ} → found ≡ Some place → {answer : Result Sizes Fault} {arcs' : List ℕ}
        → ArcAdded sizes (into_arc header nodes words from number place) arcs answer arcs'
        → Left answer metastates arcs' chains
    unfolding arc_into models_of phone_of combination_of
    enter-known n added =
        record {
          step = growing.enter-known underway machine metastates-told from x pass-none (omega arith) f n added;
          numbers = numbers_stay;
        }

    -- there is no room for it
    pub enter-crowded : found ≡ None → metastate_room half metastates ≤ sizes.table
        → Left (Err Crowd) metastates arcs chains
    unfolding room_in
    enter-crowded n h =
        record {
          step = growing.enter-crowded underway machine metastates-told from x pass-none (omega arith) f n h;
          numbers = numbers_stay;
        }

    -- it is added, and the arc into it
    pub enter-new : found ≡ None → sizes.table < metastate_room half metastates
        → {answer : Result Sizes Fault} {metastates' arcs' chains' : List ℕ}
        → MetastateAdded half follower sizes.table metastates chains metastates' chains'
        → ArcAdded (with_one sizes) (into_arc header nodes words from number sizes.table) arcs answer arcs'
        → Left answer metastates' arcs' chains'
    unfolding room_in arc_into models_of phone_of combination_of
    enter-new n h new added =
        record {
          step =
              growing.enter-new underway machine metastates-told from x pass-none (omega arith) f n h
              (metastate-coded half few x (metastate-wide half number columns few s.shaped))
              (new.put ∙ ap (λ (l : List ℕ). take (metastate_size half * sizes.table) metastates ++ l
              ++ drop (metastate_size half * sizes.table + metastate_size half) metastates)
              (metastate-row half number columns few s.shaped))
              (new.linked ∙ ap (λ (k : ℕ). linked_to (heads_in chains) chains sizes.table k)
              (metastate-key half number columns few s.shaped))
              added;
          numbers = numbers_stay;
        }
