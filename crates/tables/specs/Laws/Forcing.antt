-- Laws about the roots in force: in known tables the phone whose trees a phone has is a phone, so its roots stand
-- among the words that count; and the buffer that is filled with the roots in force, place by place.
use Rattle.std.specs.Prelude.{◌≡◌, List, ◌++◌, ℕ, ◌+◌, ◌-◌, ◌*◌, ◌/◌, ◌%◌, ◌≤◌, ◌<◌, length, set, take, drop}
use Rattle.std.proofs.Math.Path.{sym, ap}
use Rattle.std.proofs.Common.{◌∙◌, div-lt_iff_lt-mul, arith, length-append, length-drop, get_or-take, length-take-le, take_at}
use Rattle.std.proofs.Math.Nat.{mod-lt}
use Rattle.std.proofs.Math.ListN.{get_or-append}
use Rattle.definitions.specs.declared.Header.{Header}
use Rattle.definitions.specs.Ranges.{InRange}
use Rattle.definitions.specs.Lists.{◌!◌}
use Rattle.definitions.specs.BookLines.{root_count, root_place}
use Rattle.definitions.specs.Tables.{tree_phone, tables_contents, roots_in_force}
use Rattle.definitions.proofs.Laws.Lists.Lists.{map-up_from-length, map-up_from-at}
use Rattle.definitions.proofs.Laws.Books.AcceptedKnown.{header-ranges, holds-padded}
use Rattle.definitions.proofs.Laws.Books.KnownBooks.{plain-table-parts, root-table-parts}
use Rattle.definitions.proofs.Laws.Books.ForcedRoots.{tree_plain}
use Rattle.lines.specs.Laws.Filling.{Filled, filled-start, filled_more}
use Rattle.tables.specs.Forcing.{forced_roots, Forceable}
use Rattle.tables.specs.Laws.Roots.{tree-place}

-- the phone whose trees a phone has is told by the phone's own word
tree-phone-taken : (phones : ℕ) (plains : List ℕ) (phone : ℕ) → phone - 1 < phones
    → tree_phone (take phones plains) phone ≡ tree_phone plains phone
unfolding tree_phone
tree-phone-taken phones plains phone h = rw (get_or-take phones plains (phone - 1) 0 h)

-- a root in force for each phone and state
pub forced-length : (header : Header) (roots plains : List ℕ)
    → length (forced_roots header roots plains) ≡ root_count header
unfolding roots_in_force tables_contents root_count
forced-length header roots plains = map-up_from-length _ 0 (header.phones * header.states)

module _ (header : Header) (roots plains : List ℕ) (known : Forceable header roots plains) where
  abbrev states : ℕ
  states = header.states

  abbrev phone_of : (place : ℕ) → ℕ
  phone_of place = tree_phone (take header.phones plains) (place / states + 1)

  ranges : InRange header
  ranges = header-ranges header known.header-known

  -- a place tells a phone and a state of the header
  pub some_state : 0 < states
  some_state = omega (arith, ranges.states_range.low)

  pub phone_low : (place : ℕ) → place < root_count header → place / states < header.phones
  unfolding root_count
  phone_low place h = (div-lt_iff_lt-mul some_state).1 h

  pub state_low : (place : ℕ) → place % states < 3
  state_low place = omega (arith, mod-lt place some_state, ranges.states_range.high)

  -- and the phone whose trees that phone has is one of the header's
  phone-known : (place : ℕ) → place < root_count header
      → (1 ≤ phone_of place) × (phone_of place ≤ header.phones)
  phone-known place h =
      let (plains-held, plains-good) = plain-table-parts header plains known.plains-known in
      let (_, roots-good) = root-table-parts header roots (take header.phones plains) known.roots-known in
      let enough = (holds-padded header.phones plains plains-held).0 in
      let p = tree_plain header (take header.phones plains) (take (root_count header) roots)
      (length-take-le header.phones plains enough) plains-good roots-good (place / states + 1) (omega arith)
      (omega (arith, phone_low place h)) in
      (p.low, p.high)

  -- the root at a place
  pub force-here : (place : ℕ) → place < root_count header → {phone root : ℕ}
      → phone ≡ tree_phone plains (place / states + 1)
      → root ≡ roots ! root_place states phone (place % states + 1)
      → root ≡ forced_roots header roots plains ! place
  unfolding roots_in_force tables_contents root_count
  force-here place h {phone} {root} e f =
      let (low, high) = phone-known place h in
      let inside = tree-place header (phone_of place) (place % states + 1) low high (omega arith)
      (omega (arith, mod-lt place some_state)) in
      f
      ∙ ap (λ (p : ℕ). roots ! root_place states p (place % states + 1))
      (e ∙ sym (tree-phone-taken header.phones plains (place / states + 1) (omega (arith, phone_low place h))))
      ∙ sym (get_or-take (root_count header) roots _ 0 inside)
      ∙ sym (map-up_from-at _ 0 (header.phones * header.states) place place h (omega arith))

-- ---- the buffer

-- a buffer s, before the loop d, whose first i words are roots in force
pub record Forcing (header : Header) (roots plains d : List ℕ) (i : ℕ) (s : List ℕ) : Type 0 where
  pub within : i ≤ root_count header
  pub filled : Filled (forced_roots header roots plains ++ drop (root_count header) d) d i s

pub forcing-start : (header : Header) (roots plains d : List ℕ) → Forcing header roots plains d 0 d
forcing-start header roots plains d = record { within = omega arith; filled = filled-start _ d }

module _ (header : Header) (roots plains : List ℕ) {d s : List ℕ} {i : ℕ} (f : Forcing header roots plains d i s)
    (room : root_count header ≤ length d)
  where
    abbrev target : List ℕ
    target = forced_roots header roots plains ++ drop (root_count header) d

    target-length : length target ≡ length d
    target-length =
        length-append (forced_roots header roots plains) (drop (root_count header) d)
        ∙ omega (arith, forced-length header roots plains, length-drop (root_count header) d)

    pub forcing-more : i < root_count header → {v : ℕ} → v ≡ forced_roots header roots plains ! i
        → Forcing header roots plains d (i + 1) (set s i v)
    forcing-more h e =
        let own = get_or-append (forced_roots header roots plains) (drop (root_count header) d) 0 i
        (omega (arith, forced-length header roots plains)) in
        record {
          within = omega arith;
          filled = filled_more target-length f.filled (omega (arith, f.filled.sized)) (e ∙ sym own);
        }

    pub forcing-end : root_count header ≤ i
        → s ≡ forced_roots header roots plains ++ drop (root_count header) d
    forcing-end h =
        let last : i ≡ root_count header = omega (arith, f.within) in
        f.filled.holds
        ∙ ap (λ (n : ℕ). take n target ++ drop n d) last
        ∙ ap (λ l. l ++ drop (root_count header) d)
        (take_at (forced_roots header roots plains) (drop (root_count header) d) (root_count header)
        (forced-length header roots plains))
