-- Laws about writing network text: each line of known counts and arcs fits its 32 bytes, the A lines stand one
-- after the other, and the whole is the W line, the A lines and zeros. The proofs of the functions that write
-- network text use them.
use Rattle.std.specs.Prelude.{◌≡◌, Bool, true, false, T, leb, take, drop, get_or, Result, Ok, Err}
use Rattle.std.proofs.Common.{sym, ap, ◌∙◌, lit≤, drop_of_length-le, take_all}
use mathlib.Core.List.{List, [], ◌++◌, map, append_assoc, append-nil}
use Prim.Native.Nat.{ℕ, ◌+◌, ◌-◌, ◌*◌, ◌/◌, ◌≤◌, ◌<◌}
use native.Mathlib.Omega.{arith}
use Rattle.std.proofs.Math.ListN.{length, length-drop}
use Rattle.std.proofs.lemmas.List.{length-replicate}
use Rattle.std.proofs.Math.Seq.{take_at, drop_at, length-take-le}
use borrow.Author.Tests.{lt-leb, leb-true, leb-false}
use borrow.Rule.Slice.PartMut.{put_mid}
use Rattle.definitions.specs.declared.Counts.{Counts}
use Rattle.definitions.specs.declared.Fault.TheVariants.{Foreign, Short}
use Rattle.definitions.specs.declared.Refusal.{Refusal}
use Rattle.definitions.specs.Lists.{every, concat_map, records, cleared, padded, IsIn}
use Rattle.definitions.specs.Faults.{judge}
use Rattle.definitions.specs.Lines.{Line, line_text}
use Rattle.definitions.specs.Arcs.{Arc, arc_size, arc_words, arc_of, arcs_in}
use Rattle.definitions.specs.NetworkText.{arc_known, network_known, line_of_counts, line_of_arc, network_text}
use Rattle.definitions.specs.NetworkText.{write_network}
use Rattle.definitions.proofs.Laws.Lists.Tests.{by-test, if-true, every-at}
use Rattle.definitions.proofs.Laws.Lists.Lists.{map_at, drop-cleared}
use Rattle.definitions.proofs.Laws.Lists.Members.{in-every, every-weaker}
use Rattle.definitions.proofs.Laws.Lists.Records.{record-at, written-length, written-records}
use Rattle.definitions.proofs.Laws.Text.LineFields.{all_fit}
use Rattle.definitions.proofs.Laws.Text.Lines.{line-length}
use Rattle.definitions.proofs.Laws.Networks.NetworkLines.{counts_ranged, counts-fit, arc-fit, known-ranged}
use Rattle.definitions.proofs.Laws.Networks.NetworkTexts.{arc_text}
use Rattle.definitions.proofs.Laws.Networks.KnownNetworks.{arcs-length, known-parts}
use Rattle.definitions.proofs.Laws.Networks.RoundTrips.{text-length, known_written}
use Rattle.lines.specs.Rows.{line_in}
use Rattle.lines.specs.declared.Row.{Row}
use Rattle.writing.specs.Writing.{written}
use Rattle.writing.specs.Answers.{TextLeft}
use Rattle.writing.specs.Laws.Rows.{LineLeft, line-left}
use Rattle.writing.specs.Laws.Answering.{refused-left, answered-left}
use Rattle.arcs.specs.Laws.KnownArcs.{arc-at, known-arcs, known-taken}
use Rattle.arcs.specs.Whole.{all_arcs, arc_at}
use Rattle.nettext.specs.Writing.{arc_in_range}

-- ---- lines that fit

-- a line with a field left over, whose numbers have room in theirs
record Fits (line : Line) : Type 0 where
  few : length line.numbers ≤ 4
  room : T (all_fit line.numbers)

counts-fits : (counts : Counts) → T (counts_ranged counts) → Fits (line_of_counts counts)
unfolding line_of_counts
counts-fits counts h = record { few = lit≤ tt; room = counts-fit counts h }

arc-fits : (a : Arc) → T (arc_in_range a) → Fits (line_of_arc a)
unfolding line_of_arc arc_words
arc-fits a h = record { few = lit≤ tt; room = arc-fit a h }

fits-length : {line : Line} → Fits line → length (line_text line) ≡ 32
fits-length {line} f = line-length line (omega (arith, f.few)) f.room

-- ---- one line written

-- a row that holds at most four numbers uses none but its own
row-used : (row : Row) → length row.numbers ≡ 5 → length (line_in row).numbers ≤ 4 → row.used ≤ 5
unfolding line_in
row-used row five few =
    by-test (leb row.used 5) (leb-true row.used 5)
    (λ e. let more : 5 < row.used = leb-false row.used 5 e in
    let all = take_all row.used row.numbers (omega arith) in absurd (omega (arith, ap length all)))

-- a row that holds a line that fits is written
line-written : (row : Row) (line : Line) (bytes after : List ℕ) {done : Bool}
    → length row.numbers ≡ 5 → line_in row ≡ line → Fits line → 32 ≤ length bytes
    → LineLeft row bytes done after → after ≡ line_text line ++ drop 32 bytes
unfolding written
line-written row line bytes after five e f room left =
    line-left row bytes (row-used row five (rw e f.few)) room left
    ∙ rw e (if-true (all_fit line.numbers) _ _ f.room)

-- ---- the A lines of arcs

abbrev pub arcs_text : List Arc → List ℕ
arcs_text arcs = concat_map (λ a. line_text (line_of_arc a)) arcs

text-sized : (arcs : List Arc) → T (every arc_in_range arcs) → (a : Arc) → IsIn a arcs → length (arc_text a) ≡ 32
text-sized arcs h a i = fits-length (arc-fits a (in-every arc_in_range arcs h a i))

pub texts-length : (arcs : List Arc) → T (every arc_in_range arcs) → length (arcs_text arcs) ≡ 32 * length arcs
texts-length arcs h = written-length arc_text 32 arcs (text-sized arcs h)

texts-apart : (arcs : List Arc) → T (every arc_in_range arcs)
    → records 32 (length arcs) (arcs_text arcs) ≡ map arc_text arcs
texts-apart arcs h = rw append-nil at (written-records arc_text 32 arcs (text-sized arcs h) [])

-- the line of the arc at a place
text_at : (count : ℕ) (words : List ℕ) (i : ℕ) → T (every arc_in_range (arcs_in count words)) → i < count
    → arc_text (arc_at words i) ≡ take 32 (drop (32 * i) (arcs_text (arcs_in count words)))
text_at count words i h l =
    let arcs : List Arc = arcs_in count words in
    let many : length arcs ≡ count = arcs-length count words in
    let within : i < length arcs = rw many l in
    rw (← arc-at count words i l)
    (sym (map_at arc_text arcs (arc_of []) [] i within)
    ∙ ap (λ (texts : List (List ℕ)). get_or texts i []) (sym (texts-apart arcs h))
    ∙ record-at 32 (length arcs) (arcs_text arcs) i within)

-- where 32 bytes were lent for it, they are its line
pub arc-written : (words : List ℕ) (i : ℕ) (row : Row) (lent part : List ℕ) {done : Bool}
    → T (every arc_in_range (all_arcs words)) → i < length words / arc_size
    → length row.numbers ≡ 5 → line_in row ≡ line_of_arc (arc_at words i) → length lent ≡ 32
    → LineLeft row lent done part → part ≡ take 32 (drop (32 * i) (arcs_text (all_arcs words)))
arc-written words i row lent part h l five e size left =
    let count : ℕ = length words / arc_size in
    let passes = every-at arc_in_range (all_arcs words) (arc_of []) h i (rw (arcs-length count words) l) in
    let own : T (arc_in_range (arc_at words i)) = rw (arc-at count words i l) at passes in
    line-written row (line_of_arc (arc_at words i)) lent part five e (arc-fits _ own) (omega arith) left
    ∙ rw (drop_of_length-le lent {i = 32} (omega arith), append-nil) (text_at count words i h l)

-- ---- known counts and arcs

module _ (counts : Counts) (words : List ℕ) (known : network_known counts words ≡ true) where
  held : T (network_known counts words)
  held = rw known tt

  counts-line : Fits (line_of_counts counts)
  counts-line = counts-fits counts ((known-parts counts words).0 held).0

  -- the W line in a cleared buffer
  pub counts-written : (size : ℕ) (zeros first : List ℕ) (row : Row) {done : Bool} → 32 ≤ size
      → zeros ≡ cleared size → length row.numbers ≡ 5 → line_in row ≡ line_of_counts counts
      → LineLeft row zeros done first → first ≡ line_text (line_of_counts counts) ++ cleared (size - 32)
  counts-written size zeros first row h z five e left =
      let room : 32 ≤ length zeros = rw (z, length-replicate) h in
      line-written row (line_of_counts counts) zeros first five e counts-line room left ∙ rw (z, drop-cleared)

  module _ {count : ℕ} (e : count ≡ counts.arcs) where
    -- what is lent for the A lines: the words of the arcs, and the bytes after the W line
    pub lent-ready : (text : List ℕ) → 32 + 32 * count ≤ length text
        → T (every arc_in_range (all_arcs (take (arc_size * count) words)))
        × (length (take (32 + 32 * count - 32) (drop 32 text))
        ≡ 32 * (length (take (arc_size * count) words) / arc_size))
    unfolding arc_words
    lent-ready text h =
        let arcs-known = ((known-parts counts words).0 held).2 in
        let size = length-take-le (32 + 32 * count - 32) (drop 32 text) (rw length-drop (omega arith)) in (
          rw (known-arcs counts words e known)
              (every-weaker (arc_known counts) arc_in_range (known-ranged counts) _ arcs-known),
          size ∙ omega (arith, known-taken counts words e known),
        )

    -- they came back written
    arcs-put : {size : ℕ} (first part : List ℕ) → 32 + 32 * count ≤ size
        → first ≡ line_text (line_of_counts counts) ++ cleared (size - 32)
        → part ≡ arcs_text (all_arcs (take (arc_size * count) words))
        → put_mid 32 (32 + 32 * count - 32) first part
        ≡ padded size (network_text counts (arcs_in counts.arcs words))
    unfolding network_text padded
    arcs-put {size} first part h f p =
        let line : List ℕ = line_text (line_of_counts counts) in
        let long : length line ≡ 32 = fits-length counts-line in
        let rest : size - 32 - (32 + 32 * count - 32) ≡ size - (32 + 32 * counts.arcs) = omega arith in
        rw (
          f,
          p,
          known-arcs counts words e known,
          take_at line (cleared (size - 32)) 32 long,
          drop_at line (cleared (size - 32)) 32 long,
          drop-cleared,
          rest,
          ← text-length counts words held,
        ) (sym (append_assoc line _ _))

-- ---- what writing answers and leaves

module _ (counts : Counts) (words : List ℕ) (size : ℕ) where
  abbrev Left : Result ℕ Refusal → (after : List ℕ) → Type 0
  Left answer after = TextLeft (write_network counts words size) size answer after

  module _ {answer : Result ℕ Refusal} {after : List ℕ} where
    pub write-foreign : network_known counts words ≡ false
        → answer ≡ Err (record { fault = Foreign; line = 0 }) → after ≡ cleared size → Left answer after
    unfolding write_network judge
    write-foreign k = refused-left size Foreign (rw k)

    pub write-short : network_known counts words ≡ true
        → {count : ℕ} → count ≡ counts.arcs → size < 32 + 32 * count
        → answer ≡ Err (record { fault = Short; line = 0 }) → after ≡ cleared size → Left answer after
    unfolding write_network judge
    write-short k e l =
        let long : size < 32 + 32 * counts.arcs = omega arith in
        refused-left size Short (rw (k, text-length counts words (rw k tt), lt-leb (32 + 32 * counts.arcs) size long))

  pub write_done : network_known counts words ≡ true
      → {count : ℕ} → count ≡ counts.arcs → 32 + 32 * count ≤ size
      → (first part : List ℕ) → first ≡ line_text (line_of_counts counts) ++ cleared (size - 32)
      → part ≡ arcs_text (all_arcs (take (arc_size * count) words))
      → Left (Ok (32 + 32 * count)) (put_mid 32 (32 + 32 * count - 32) first part)
  write_done k {count} e l first part f p =
      answered-left size (known_written counts words size (rw k tt) (omega arith))
      (rw e (sym (text-length counts words (rw k tt)))) (arcs-put counts words k e first part l f p)
