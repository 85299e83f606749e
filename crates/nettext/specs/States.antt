-- What the code keeps of the lines it has taken, the tests it puts to the next line by it, and the state after
-- that line.
use Rattle.std.specs.Prelude.{List, [], ◌∷◌, Bool, true, ◌&&◌, ℕ, ◌+◌, ◌<◌, leb, ltb, eqb, length}
use Rattle.definitions.specs.declared.Fault.TheVariants.{Range, Order}
use Rattle.definitions.specs.Arcs.{Arc}
use Rattle.definitions.specs.Faults.{Test, ◌unless◌}
use Rattle.definitions.specs.Forms.{network_forms}
use Rattle.definitions.specs.Lines.{Line, in_fixed_ranges}
use Rattle.definitions.specs.NetworkText.{NetworkLine, W, A, counts_in_line, counts_of, arcs_of}
use Rattle.definitions.specs.NetworkText.{within_counts, network_tests}
use Rattle.nettext.specs.declared.State.{State}

-- the source of the last arc, 0 without arcs
unfoldable pub last_source : List Arc → ℕ
last_source [] = 0
last_source (a ∷ []) = a.from
last_source (a ∷ b ∷ arcs) = last_source (b ∷ arcs)

-- what is kept of the lines taken so far
unfoldable pub state_of : (before : List NetworkLine) → State
state_of before =
    record {
      lines = length before;
      counts = counts_of before;
      arcs = length (arcs_of before);
      last = last_source (arcs_of before);
    }

-- counts that one more line does not carry beyond their words
pub record Countable (s : State) : Type 0 where
  pub lines : s.lines < 18446744073709551615
  pub arcs : s.arcs < 18446744073709551615

-- 14 for the letter, by the state
abbrev pub follows_in : State → NetworkLine → Bool
follows_in s (W _ _ _) = eqb s.lines 0
follows_in s (A _) = ltb 0 s.lines

-- 14 for the numbers, by the state
abbrev pub in_order_in : State → NetworkLine → Bool
in_order_in s (W _ _ _) = true
in_order_in s (A a) = leb s.last a.from

-- the tests of a line and of what it says, in their order
abbrev pub tests_in : (lent : ℕ) → State → Line → NetworkLine → List Test
tests_in lent s line said =
    Order unless follows_in s said
    ∷ Range unless in_fixed_ranges network_forms line
    ∷ Range unless within_counts s.counts said
    ∷ Order unless in_order_in s said
    ∷ network_tests lent said

-- not 17: whether these lines are all that the W line promised
abbrev pub complete_in : State → Bool
complete_in s = ltb 0 s.lines && eqb s.arcs s.counts.arcs

-- the state after one more line
abbrev pub next_state : State → NetworkLine → State
next_state s (W states metastates arcs) =
    record {
      lines = s.lines + 1;
      counts = counts_in_line (W states metastates arcs);
      arcs = s.arcs;
      last = s.last;
    }
next_state s (A a) =
    record { lines = s.lines + 1; counts = s.counts; arcs = s.arcs + 1; last = a.from }
