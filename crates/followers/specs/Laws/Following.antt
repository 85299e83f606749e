-- Laws about appending the arcs to followers: what holds before each, and what a refusal or the last leaves.
-- The idea: what is still to be performed, from the network so far, leads to the same as all from the first.
use Rattle.std.specs.Option.{unwrap_or}
use Rattle.std.specs.Prelude.{◌≡◌, refl, List, true, ℕ, suc, ◌+◌, ◌≤◌, ◌<◌, length, Option, Some, None, IfSome, Result, Ok, Err}
use Rattle.std.proofs.Common.{arith, sym, ◌∙◌, add-one}
use Rattle.std.proofs.Math.Path.{ap, subst}
use Rattle.definitions.specs.declared.Fault.{Fault}
use Rattle.definitions.specs.declared.Header.{Header}
use Rattle.definitions.specs.Faults.{Outcome, answered, and_then}
use Rattle.definitions.specs.Matrices.{Matrix, meet}
use Rattle.definitions.specs.Combinations.{Combination}
use Rattle.definitions.specs.Metastates.{Metastate, numbered}
use Rattle.definitions.specs.Building.{room_in}
use Rattle.definitions.specs.Growing.{enter, Room, perform, perform_all}
use Rattle.definitions.specs.Connecting.{Network}
use Rattle.matrix.specs.Shapes.{matrix_in}
use Rattle.index.specs.Combinations.{combinations_in, machine_in}
use Rattle.index.specs.Following.{follows_at, NextFollower, FollowerFound}
use Rattle.index.specs.Seeking.{Seeking}
use Rattle.index.specs.Laws.Followers.{followers_at, followers-skip, followers-found, followers-out}
use Rattle.growing.specs.declared.Sizes.{Sizes}
use Rattle.growing.specs.Kept.{Kept}
use Rattle.growing.specs.Steps as growing
use Rattle.growing.specs.Laws.Steps.{next-answered, stop-refused}
use Rattle.growing.specs.Laws.Going.{Going, going_start, going_done, going_more, going-stop}
use Rattle.metastates.specs.Networks.{metastate_code, network_held, room_of, NumbersBelow}
use Rattle.metastates.specs.Underway.{Underway}
use Rattle.metastates.specs.Steps.{StepLeft}
use Rattle.metastates.specs.Outcomes.{entering_all}
use Rattle.metastates.specs.Laws.HeldBack.{same-room}
use Rattle.followers.specs.Turns.{Following}

-- what entering the followers from a combination on leads to
abbrev pub entering_from : Header → (nodes words columns : List ℕ) (from : ℕ) (metastates arcs : List ℕ)
    → Network → (number : ℕ) → Outcome Network
entering_from header nodes words columns from metastates arcs net number =
    entering_all header nodes words from metastates arcs net
    (followers_at (matrix_in header.half columns) (combinations_in header words) number)

-- a combination that is found follows
abbrev pub Follows : Header → (words columns : List ℕ) → (found : Option ℕ) → Type 0
Follows header words columns found =
    IfSome found (λ n. (n < length (combinations_in header words))
    × (follows_at (matrix_in header.half columns) (combinations_in header words) n ≡ true))

-- before the arc to the next follower, if there is one: what is still to be performed with the network so far leads to
-- the same as all
pub record Followed (header : Header) (nodes words columns : List ℕ) (from : ℕ)
    (metastates₀ arcs₀ chains₀ : List ℕ) (sizes₀ : Sizes) (metastates arcs chains : List ℕ) (sizes : Sizes)
    (next : Option ℕ) : Type 0 where
  pub found : Follows header words columns next
  pub going : Going (metastate_code header.half) (room_of header.half metastates₀ arcs₀)
      metastates₀ arcs₀ chains₀
      (entering_from header nodes words columns from metastates₀ arcs₀
      (network_held header.half sizes₀ metastates₀ arcs₀) 0)
      (λ net. entering_from header nodes words columns from metastates₀ arcs₀ net
      (unwrap_or next (length (combinations_in header words))))
      sizes metastates arcs chains
  pub numbers : NumbersBelow (length (combinations_in header words))
      (network_held header.half sizes metastates arcs).table

-- ---- before the first

-- what the search for them asks
pub seeks : {header : Header} {nodes words index metastates arcs chains columns : List ℕ} {sizes : Sizes}
    → Following header nodes words index metastates arcs chains sizes columns
    → Seeking header words index columns
seeks s =
    record {
      usable = s.searchable.connectable.usable;
      indexed = s.searchable.indexed;
      shaped = s.shaped;
    }

-- what is found follows
follows : (header : Header) (words columns : List ℕ) {from : ℕ} (found : Option ℕ)
    → FollowerFound (matrix_in header.half columns) (combinations_in header words) from found
    → Follows header words columns found
follows header words columns None f = tt
follows header words columns (Some n) f = (f.some, f.next.found f.some)

pub followed-start : {header : Header} {words columns metastates arcs chains : List ℕ} {sizes : Sizes}
    {next : Option ℕ} (nodes : List ℕ) (from : ℕ) → Underway header words sizes metastates arcs chains
    → FollowerFound (matrix_in header.half columns) (combinations_in header words) 0 next
    → Followed header nodes words columns from
    metastates arcs chains sizes metastates arcs chains sizes next
unfolding room_in
followed-start {header} {words} {columns} {metastates} {arcs} {chains} {sizes} {next} nodes from h found = record {
  found = follows header words columns next found;
  going =
      going_start _ _ (record { kept = h.kept; whole = refl })
      (ap (entering_all header nodes words from metastates arcs
      (network_held header.half sizes metastates arcs))
      (followers-skip (matrix_in header.half columns) (combinations_in header words) found.next));
  numbers = h.numbers;
}

module _ {header : Header} {nodes words columns : List ℕ} {from : ℕ} {metastates₀ arcs₀ chains₀ : List ℕ}
    {sizes₀ : Sizes} {metastates arcs chains : List ℕ} {sizes : Sizes} {next : Option ℕ}
    (t : Followed header nodes words columns from metastates₀ arcs₀ chains₀ sizes₀
    metastates arcs chains sizes next)
  where
    abbrev cs : List Combination
    cs = combinations_in header words

    abbrev now : Network
    now = network_held header.half sizes metastates arcs

    -- what the followers from the first on lead to, or those that are left
    abbrev all : Outcome Network
    all =
        entering_from header nodes words columns from metastates₀ arcs₀
        (network_held header.half sizes₀ metastates₀ arcs₀) 0

    abbrev onward : List Metastate → Network → Outcome Network
    onward left net = entering_all header nodes words from metastates₀ arcs₀ net left

    -- what the next arc asks: the room is the same
    rooms : room_of header.half metastates₀ arcs₀ ≡ room_of header.half metastates arcs
    rooms =
        same-room header.half metastates₀ metastates arcs₀ arcs t.going.table-sized t.going.arcs-sized

    pub followed-underway : Underway header words sizes metastates arcs chains
    followed-underway =
        record {
          kept =
              subst (λ room. Kept (metastate_code header.half) room now metastates arcs chains) rooms
              t.going.underway.kept;
          numbers = t.numbers;
        }

    -- ---- past the last

    answers-same : {k l : Network} → ◌≡◌ {A = Outcome Network} (answered k) (answered l) → k ≡ l
    answers-same e = cc

    pub followed-end : next ≡ None
        → StepLeft header words metastates₀ arcs₀ chains₀ all (Ok sizes) metastates arcs chains
    unfolding perform_all
    followed-end e =
        let past : length cs ≤ unwrap_or next (length cs) =
        subst (λ (n : Option ℕ). length cs ≤ unwrap_or n (length cs)) (sym e) (omega arith) in
        let done : onward (followers_at (matrix_in header.half columns) cs (unwrap_or next (length cs))) now
        ≡ answered now =
        ap (λ l. onward l now)
        (followers-out (matrix_in header.half columns) cs (unwrap_or next (length cs)) past) in
        record {
          step = going_done t.going done;
          numbers = λ net a.
              subst (λ (n : Network). NumbersBelow (length cs) n.table)
              (answers-same (sym (t.going.equal ∙ done) ∙ a)) t.numbers;
        }

    -- ---- a follower, and what entering it answers and leaves

    -- the next one is a combination, and it follows
    followed-found : {number : ℕ} → next ≡ Some number → Follows header words columns (Some number)
    followed-found e = subst (λ (n : Option ℕ). Follows header words columns n) e t.found

    pub followed-listed : {number : ℕ} → next ≡ Some number → number < length cs
    followed-listed e = (followed-found e).0

    pub followed-follows : {number : ℕ} → next ≡ Some number
        → follows_at (matrix_in header.half columns) cs number ≡ true
    followed-follows e = (followed-found e).1

    module _ {number : ℕ} (n : next ≡ Some number) {met : Matrix}
        (m : met ≡ meet (matrix_in header.half columns) (numbered cs number).carried) where
      abbrev entered_in : Room → Outcome Network
      entered_in room =
          perform (machine_in header nodes words) room now (enter from (record { number = number; carried = met }))

      -- its arc first, then the others
      first_then : (later : List Metastate)
          → followers_at (matrix_in header.half columns) cs (suc number) ≡ later
          → onward (followers_at (matrix_in header.half columns) cs (unwrap_or next (length cs))) now
          ≡ and_then (entered_in (room_of header.half metastates₀ arcs₀)) (onward later)
      unfolding perform_all
      first_then later e =
          ap (λ (k : Option ℕ).
          onward (followers_at (matrix_in header.half columns) cs (unwrap_or k (length cs))) now) n
          ∙ ap (λ l. onward l now)
          (followers-found (matrix_in header.half columns) cs number (λ _. followed-follows n) (followed-listed n))
          ∙ rw (e, ← m)

      module _ {answer : Result Sizes Fault} {metastates' arcs' chains' : List ℕ}
          (left : StepLeft header words metastates arcs chains (entered_in (room_of header.half metastates arcs))
          answer metastates' arcs' chains')
        where
          in-room : growing.StepLeft (metastate_code header.half) (room_of header.half metastates₀ arcs₀)
              metastates arcs chains (entered_in (room_of header.half metastates₀ arcs₀)) answer
              metastates' arcs' chains'
          in-room =
              subst (λ room. growing.StepLeft (metastate_code header.half) room metastates arcs chains
              (entered_in room) answer metastates' arcs' chains') (sym rooms) left.step

          -- it is refused
          pub followed-stop : {fault : Fault} → answer ≡ Err fault
              → StepLeft header words metastates₀ arcs₀ chains₀ all (Err fault)
              metastates' arcs' chains'
          followed-stop stops =
              let later : List Metastate = followers_at (matrix_in header.half columns) cs (suc number) in
              let stopped = going-stop t.going (onward later) in-room (first_then later refl) stops in
              record { step = stopped; numbers = λ net e. absurd (stop-refused stopped refl net e) }

          -- it is entered, and the next is looked for
          pub followed-next : {grown : Sizes} {later : Option ℕ} → answer ≡ Ok grown
              → FollowerFound (matrix_in header.half columns) cs (number + 1) later
              → Followed header nodes words columns from metastates₀ arcs₀ chains₀ sizes₀
              metastates' arcs' chains' grown later
          followed-next {grown} {later} goes further =
              let place : ℕ = unwrap_or later (length cs) in
              let after : NextFollower (matrix_in header.half columns) cs (suc number) place =
              subst (λ (k : ℕ). NextFollower (matrix_in header.half columns) cs k place) (add-one number)
              further.next in
              record {
                found = follows header words columns later further;
                going =
                    going_more t.going (onward (followers_at (matrix_in header.half columns) cs place)) in-room
                    (first_then _ (followers-skip (matrix_in header.half columns) cs after)) goes;
                numbers = left.numbers _ (next-answered left.step goes);
              }
