-- The chain theorem, the core of demand 3: what is admitted at the end of a chain of steps. A step to a
-- combination shifts what is carried and meets it with what the combination carries. By laws 1 to 3 of Carrier
-- the last carrier admits W exactly when some phones e before W make the first admit e ++ W and each combination
-- admit it from its own place on. Nothing here knows the ends of a sentence: demand/Sentences.antt joins it with
-- them.
use Rattle.std.specs.Prelude.{◌≡◌, refl, ◌↔◌, T, length, drop}
use Rattle.std.proofs.Math.Path.{ap}
use mathlib.Core.List.{List, [], ◌∷◌, ◌++◌}
use Prim.Native.Nat.{ℕ, suc, ◌+◌, ◌≤◌}
use Rattle.std.proofs.Common.{arith, length-append, drop_at}
use Rattle.definitions.specs.Lists.{every}
use Rattle.definitions.specs.BookLines.{is_phone}
use Rattle.definitions.specs.Tables.{Book}
use Rattle.definitions.proofs.Laws.Lists.Lists.{every-cons, every-parts}
use Rattle.definitions.proofs.Laws.Books.Sound.{columns_of, AllPhones}
use Rattle.definitions.proofs.Demand.Carrier.{Carrier, holds_some, meet_of, shift_of, fits, Wide, Formed}
use Rattle.definitions.proofs.Demand.Carrier.{meet-wide, meet-fits, shift-wide, shift-fits-rest}
use Rattle.definitions.proofs.Demand.Carrier.{shift-fits-from, fits-holds}

-- each carrier admits the list from its own place on
abbrev pub AdmitEach : List Carrier → (Z : List ℕ) → Type 0
AdmitEach [] Z = Unit {0}
AdmitEach (c ∷ cs) Z = T (fits c Z) × AdmitEach cs (drop 1 Z)

module _ (book : Book) where
  -- carriers of the book's form
  abbrev pub AllWide : List Carrier → Type 0
  AllWide [] = Unit {0}
  AllWide (c ∷ cs) = Wide book c × AllWide cs

  -- what a step leads to from m, where the combination carries c
  abbrev pub step_to : Carrier → (c : Carrier) → Carrier
  step_to m c = meet_of (shift_of book m) c

  -- what is carried at the end of steps, and that every step leaves some window
  unfoldable pub after_steps : Carrier → List Carrier → Carrier
  after_steps m [] = m
  after_steps m (c ∷ cs) = after_steps (step_to m c) cs

  abbrev pub Steps : Carrier → List Carrier → Type 0
  Steps m [] = Unit {0}
  Steps m (c ∷ cs) = T (holds_some (step_to m c)) × Steps (step_to m c) cs

  -- phones before W that trace the steps back to their beginning
  pub record Trace (m : Carrier) (cs : List Carrier) (W e : List ℕ) : Type 0 where
    pub as_many : length e ≡ length cs
    pub phones-in : AllPhones book e
    pub first : T (fits m (e ++ W))
    pub others : AdmitEach cs (drop 1 (e ++ W))

  -- one phone more for each step, back from the end
  traced : (m : Carrier) (cs : List Carrier) (W : List ℕ) → Formed book m → AllWide cs
      → Steps m cs → T (fits (after_steps m cs) W) → (e : List ℕ) × Trace m cs W e
  unfolding after_steps every
  traced m [] W f wide s h = ([], record { as_many = refl; phones-in = tt; first = h; others = tt })
  traced m (c ∷ cs) W f wide s h =
      let shifted = shift-wide f.wide in
      let on : Formed book (step_to m c) = record { wide = meet-wide shifted wide.0; holds = s.0 } in
      let (e, t) = traced (step_to m c) cs W on wide.1 s.1 h in
      let both = (meet-fits shifted wide.0 (e ++ W)).0 t.first in
      let (x, phone, begins) = shift-fits-from f (e ++ W) both.0 in (
        x ∷ e,
        record {
          as_many = ap suc t.as_many;
          phones-in = (every-cons (is_phone book.phones) x e).1 (phone, t.phones-in);
          first = begins;
          others = (both.1, t.others);
        },
      )

  -- each step leaves some window, as it admits the rest of the list
  stepped : (m : Carrier) (cs : List Carrier) (Z : List ℕ) → Wide book m → AllWide cs
      → AllPhones book Z → columns_of book + length cs ≤ length Z → T (fits m Z) → AdmitEach cs (drop 1 Z)
      → Steps m cs × T (fits (after_steps m cs) (drop (length cs) Z))
  unfolding after_steps
  stepped m [] Z w wide r long h each = (tt, h)
  stepped m (c ∷ cs) [] w wide r long h each = absurd (omega arith)
  stepped m (c ∷ cs) (x ∷ Z) w wide r long h each =
      let shifted = shift-wide w in
      let rest = ((every-cons (is_phone book.phones) x Z).0 r).1 in
      let on = shift-fits-rest w x Z (omega arith) rest h in
      let met = (meet-fits shifted wide.0 Z).1 (on, each.0) in
      let (steps, last) = stepped (step_to m c) cs Z (meet-wide shifted wide.0) wide.1 rest
      (omega arith) met each.1 in
      ((fits-holds (step_to m c) Z met, steps), last)

  pub chain : (m : Carrier) (cs : List Carrier) (W : List ℕ) → Formed book m → AllWide cs
      → AllPhones book W → columns_of book ≤ length W
      → (Steps m cs × T (fits (after_steps m cs) W)) ↔ ((e : List ℕ) × Trace m cs W e)
  chain m cs W f wide r long = (λ h. traced m cs W f wide h.0 h.1, λ h. back h.0 h.1)
    where
      back : (e : List ℕ) → Trace m cs W e → Steps m cs × T (fits (after_steps m cs) W)
      back e t =
          let all = (every-parts (is_phone book.phones) e W).1 (t.phones-in, r) in
          let enough : columns_of book + length cs ≤ length (e ++ W) =
          omega (arith, length-append e W, t.as_many) in
          let (steps, last) = stepped m cs (e ++ W) f.wide wide all enough t.first t.others in
          (steps, rw (drop_at e W (length cs) t.as_many) at last)
