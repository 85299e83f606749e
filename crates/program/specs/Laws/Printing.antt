-- Laws about printing into an output that is still empty: the line of a refusal, and the text of a known
-- network, for which there is room. The proofs of the functions that print use them.
use Rattle.std.proofs.Math.Path.{◌≡◌}
use Rattle.std.proofs.Common.{sym, ap, ◌∙◌, length-append, le-leb}
use mathlib.Core.List.{List, [], ◌∷◌, ◌++◌}
use Rattle.std.specs.Prelude.{if◌then◌else◌, Bool, true, ◌&&◌, ℕ, ◌+◌, ◌-◌, ◌*◌, ◌≤◌, T, leb, drop, Result, Ok}
use Prim.Native.Char.{code}
use native.Mathlib.Omega.{arith}
use Rattle.std.proofs.Math.ListN.{length}
use Rattle.std.proofs.lemmas.List.{length-replicate}
use Rattle.definitions.specs.declared.Counts.{Counts}
use Rattle.definitions.specs.declared.Refusal.{Refusal}
use Rattle.definitions.specs.Lists.{every, cleared, padded}
use Rattle.definitions.specs.Faults.{answered, number_of, answer_left}
use Rattle.definitions.specs.Arcs.{arc_size}
use Rattle.definitions.specs.NetworkText.{network_known, write_network}
use Rattle.definitions.specs.Program.{refusal_text}
use Rattle.definitions.proofs.Laws.Lists.Lists.{drop-cleared, padded-none, padded-length}
use Rattle.definitions.proofs.Laws.Networks.KnownNetworks.{known-holds}
use Rattle.definitions.proofs.Laws.Networks.RoundTrips.{known_written}
use Rattle.definitions.proofs.Laws.Networks.Program.{fault-small, refusal-length}
use Rattle.lines.specs.declared.Row.{Row}
use Rattle.lines.specs.Rows.{line_in}
use Rattle.writing.specs.Writing.{writable, written}
use Rattle.definitions.specs.Said.{result_of}
use Rattle.std.specs.Result.{result_unwrap_or}
use Rattle.program.specs.Printing.{output_size, Empty, Prints, text_in}

-- ---- an empty output

module _ (size : ℕ) (output : List ℕ) (empty : output ≡ padded size []) where
  empty-length : length output ≡ size
  empty-length = ap length empty ∙ padded-length size [] (omega arith)

  -- the first line of it written
  line-printed : (line : List ℕ) → length line ≡ 32 → line ++ drop 32 output ≡ padded size line
  unfolding padded
  line-printed line h =
      let all : size - length {A = ℕ} [] ≡ size = omega arith in
      rw (empty, all, drop-cleared 32 size, h)

pub cleared-empty : Empty (cleared output_size)
cleared-empty = padded-none output_size

-- the same text under another name
pub prints-same : (text other output : List ℕ) (count : ℕ) → text ≡ other → Prints text output count
    → Prints other output count
prints-same text other output count e h = rw (← e) h

-- what is printed has room in the output
pub prints-fit : (text output : List ℕ) (count : ℕ) → Prints text output count → length output ≡ output_size
    → (output_size ≡ length output) × (count ≤ output_size)
unfolding padded
prints-fit text output count (left, e) sized =
    let long : length output ≡ length text + (output_size - length text) =
    ap length left ∙ simp (length-append, length-replicate) in
    (sym sized, omega (arith, long, sized, e))

-- ---- the line of a refusal

-- its row, with the number of the fault
abbrev refusal_row : (number line : ℕ) → Row
refusal_row number line = record { letter = code "X"; used = 2; numbers = number ∷ line ∷ 0 ∷ 0 ∷ 0 ∷ [] }

row-writable : (number line : ℕ) → number ≤ 999999 → line ≤ 999999 → writable (refusal_row number line) ≡ true
unfolding writable line_in every
row-writable number line h l = rw (le-leb number 999999 h, le-leb line 999999 l)

pub refusal-prints : (r : Refusal) (number : ℕ) (output after : List ℕ) (done : Bool) → r.line ≤ 999999
    → Empty output → number ≡ number_of r.fault
    → done ≡ (leb 32 (length output) && writable (refusal_row number r.line))
    → after ≡ (if done then written (refusal_row number r.line) output else output)
    → Prints (refusal_text r) after 32
unfolding written line_in refusal_text
refusal-prints r number output after done h empty e d left =
    let sized : length output ≡ output_size = empty-length output_size output empty in
    let small : number ≤ 999999 = omega (arith, fault-small r.fault) in
    let passed : done ≡ true =
    d ∙ rw (le-leb 32 (length output) (omega arith), row-writable number r.line small h) in
    let long : length (refusal_text r) ≡ 32 = refusal-length r h in
    (left ∙ rw (passed, e) (line-printed output_size output empty (refusal_text r) long), sym long)

-- ---- the text of a network

-- a known network in the program's arc space is written, since its text has room
module _ (counts : Counts) (words output : List ℕ) (known : T (network_known counts words))
    (space : length words ≡ arc_size * 2000) (empty : Empty output)
  where
    network-written : write_network counts words (length output) ≡ answered (text_in counts words)
    network-written =
        known_written counts words (length output) known
        (omega (arith, (known-holds counts words known).0, empty-length output_size output empty))

    -- what is answered, by the words of the contract
    network-answer : (answer : Result ℕ Refusal)
        → answer ≡ result_of length (write_network counts words (length output))
        → answer ≡ Ok (length (text_in counts words))
    unfolding result_of
    network-answer answer e = e ∙ rw network-written

    pub network-prints : (answer : Result ℕ Refusal) (after : List ℕ)
        → answer ≡ result_of length (write_network counts words (length output))
        → after ≡ answer_left (length output) (write_network counts words (length output))
        → Prints (text_in counts words) after (result_unwrap_or answer 0)
    unfolding answer_left
    network-prints answer after e left =
        let sized : length output ≡ output_size = empty-length output_size output empty in
        (left ∙ rw network-written (rw sized), rw (network-answer answer e))
