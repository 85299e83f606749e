-- What the code keeps of the lines it has taken, the tests it puts to the next line by it, and the state after
-- that line.
use Rattle.std.specs.Prelude.{Option, Some, None, List, [], ◌∷◌, map, Bool, true, not, ◌&&◌, ℕ, suc, ◌+◌, ◌≤◌, ◌<◌, leb, ltb, eqb, length}
use Rattle.std.specs.Int.Bits.{bit_and, bit_or}
use Rattle.definitions.specs.declared.Fault.TheVariants.{Range, Order}
use Rattle.definitions.specs.Faults.{Test, ◌unless◌}
use Rattle.definitions.specs.Forms.{book_forms}
use Rattle.definitions.specs.Lines.{Line, in_fixed_ranges}
use Rattle.definitions.specs.PhoneSets.{has, alone, set_of}
use Rattle.definitions.specs.BookLines.{BookLine, H, Q, N, L, B, R, header_in, header_of, root_count, Member, members_of}
use Rattle.definitions.specs.BookLines.{nodes_of, Boundary, boundaries_of, roots_of, root_place, next_place}
use Rattle.definitions.specs.BookReading.{Lent, within_header, comes_before, left_out, book_tests}
use Rattle.booklines.specs.declared.State.{State}
use Rattle.booklines.specs.declared.Member as declared
use Rattle.booklines.specs.Entries.{member_of}

-- the last Q line among the members
unfoldable pub last_of : List Member → Option declared.Member
last_of [] = None
last_of (m ∷ []) = Some (record { class = m.class; phone = m.phone })
last_of (m ∷ n ∷ members) = last_of (n ∷ members)

-- the phone after the last boundary phone, 0 before the first
unfoldable pub after_of : List Boundary → ℕ
after_of [] = 0
after_of (b ∷ []) = suc b.phone
after_of (b ∷ c ∷ boundaries) = after_of (c ∷ boundaries)

-- the set of the boundary phones, and that of their plain phones
abbrev pub boundary_set : List Boundary → ℕ
boundary_set boundaries = set_of (map (λ b. b.phone) boundaries)

abbrev pub plain_set : List Boundary → ℕ
plain_set boundaries = set_of (map (λ b. b.plain) boundaries)

-- what is kept of the lines taken so far
unfoldable pub state_of : (before : List BookLine) → State
state_of before =
    record {
      lines = length before;
      header = header_of before;
      last = last_of (members_of before);
      nodes = length (nodes_of before);
      after = after_of (boundaries_of before);
      boundaries = boundary_set (boundaries_of before);
      plains = plain_set (boundaries_of before);
      next = next_place (header_of before).states (roots_of before);
    }

-- a header with states, from the first line on
abbrev pub HasStates : State → Type 0
HasStates s = 0 < s.lines → 1 ≤ s.header.states

-- counts that one more line does not carry beyond their words
pub record Countable (s : State) : Type 0 where
  pub lines : s.lines < 18446744073709551615
  pub nodes : s.nodes < 4294967295

-- a line whose boundary phone and plain phone have their bits in a word
abbrev pub PhonesFit : BookLine → Type 0
PhonesFit (H _ _ _ _ _) = Unit {0}
PhonesFit (Q _ _) = Unit {0}
PhonesFit (N _ _ _ _ _) = Unit {0}
PhonesFit (L _ _) = Unit {0}
PhonesFit (B boundary plain) = (boundary ≤ 64) × (plain ≤ 64)
PhonesFit (R _ _ _) = Unit {0}

-- 14 for the letter, by the state
unfoldable pub follows_in : State → BookLine → Bool
follows_in s (H _ _ _ _ _) = eqb s.lines 0
follows_in s (Q _ _) = ltb 0 s.lines && eqb s.nodes 0
follows_in s (N _ _ _ _ _) = ltb s.nodes s.header.nodes
follows_in s (L _ _) = ltb s.nodes s.header.nodes
follows_in s (B _ _) = ltb 0 s.lines && eqb s.nodes s.header.nodes && eqb s.next 0
follows_in s (R _ _ _) = ltb 0 s.lines && eqb s.nodes s.header.nodes

unfoldable pub after_last_member : Option declared.Member → Member → Bool
after_last_member None m = true
after_last_member (Some last) m = comes_before (member_of last) m

-- whether the R lines from the next place up to another may be left out
unfoldable pub left_out_in : State → (place : ℕ) → Bool
left_out_in s place = left_out (λ p. has p s.boundaries) s.header.states s.next place

-- 14 for the numbers, by the state
unfoldable pub in_order_in : State → BookLine → Bool
in_order_in s (H _ _ _ _ _) = true
in_order_in s (Q class phone) = after_last_member s.last (record { class = class; phone = phone })
in_order_in s (N node _ _ _ _) = eqb node s.nodes
in_order_in s (L node _) = eqb node s.nodes
in_order_in s (B boundary _) = leb s.after boundary
in_order_in s (R phone state _) = left_out_in s (root_place s.header.states phone state)

-- the tests of a line and of what it says, in their order
unfoldable pub tests_in : Lent → State → Line → BookLine → List Test
tests_in lent s line said =
    Order unless follows_in s said
    ∷ Range unless in_fixed_ranges book_forms line
    ∷ Range unless within_header s.header said
    ∷ Order unless in_order_in s said
    ∷ book_tests lent said

-- 17, going on, and not 17, ending early
unfoldable pub full_in : State → Bool
full_in s = ltb 0 s.lines && eqb s.next (root_count s.header)

unfoldable pub enough_in : State → Bool
enough_in s = ltb 0 s.lines && left_out_in s (root_count s.header)

-- 21: some plain phone is a boundary phone
unfoldable pub chained_in : State → Bool
chained_in s = not (eqb (bit_and s.boundaries s.plains) 0)

-- the state after one more node's line, one more B line, and one more R line
unfoldable pub with_node : State → State
with_node s =
    record {
      lines = s.lines + 1;
      header = s.header;
      last = s.last;
      nodes = s.nodes + 1;
      after = s.after;
      boundaries = s.boundaries;
      plains = s.plains;
      next = s.next;
    }

unfoldable pub with_boundary : State → (boundary plain : ℕ) → State
with_boundary s boundary plain =
    record {
      lines = s.lines + 1;
      header = s.header;
      last = s.last;
      nodes = s.nodes;
      after = boundary + 1;
      boundaries = bit_or s.boundaries (alone boundary);
      plains = bit_or s.plains (alone plain);
      next = s.next;
    }

unfoldable pub with_root : State → (phone state : ℕ) → State
with_root s phone state =
    record {
      lines = s.lines + 1;
      header = s.header;
      last = s.last;
      nodes = s.nodes;
      after = s.after;
      boundaries = s.boundaries;
      plains = s.plains;
      next = root_place s.header.states phone state + 1;
    }

-- the state after one more line
unfoldable pub next_state : State → BookLine → State
next_state s (H half states phones classes nodes) =
    record {
      lines = s.lines + 1;
      header = header_in (H half states phones classes nodes);
      last = s.last;
      nodes = s.nodes;
      after = s.after;
      boundaries = s.boundaries;
      plains = s.plains;
      next = s.next;
    }
next_state s (Q class phone) =
    record {
      lines = s.lines + 1;
      header = s.header;
      last = Some (record { class = class; phone = phone });
      nodes = s.nodes;
      after = s.after;
      boundaries = s.boundaries;
      plains = s.plains;
      next = s.next;
    }
next_state s (N _ _ _ _ _) = with_node s
next_state s (L _ _) = with_node s
next_state s (B boundary plain) = with_boundary s boundary plain
next_state s (R phone state _) = with_root s phone state
