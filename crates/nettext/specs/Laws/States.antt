-- Laws about the state: the verdict that is given by it is that of document 01 after the lines taken so far,
-- and after one more line it is again what is kept of the lines.
use Rattle.std.specs.Prelude.{◌≡◌, refl, List, [], ◌∷◌, ◌++◌, ℕ, suc, ◌+◌, ◌<◌, T, leb, length}
use Rattle.std.proofs.Common.{sym, ap, ◌∙◌, arith, eqb→eq, ltb→lt, length-append, le-leb}
use Rattle.definitions.specs.Arcs.{Arc}
use Rattle.definitions.specs.Lists.{last_passes, concat_map}
use Rattle.definitions.specs.Lines.{Line}
use Rattle.definitions.specs.Forms.{network_forms}
use Rattle.definitions.specs.Reading.{line_tests}
use Rattle.definitions.specs.NetworkText.{NetworkLine, W, A, network_line, counts_of, arc_in_line, arcs_of}
use Rattle.definitions.specs.NetworkText.{network_follows, network_in_order, network_complete, network_kind}
use Rattle.definitions.proofs.Laws.Lists.Lists.{concat_map-snoc}
use Rattle.lines.specs.Judging.{verdict_by, line_verdict}
use Rattle.nettext.specs.declared.State.{State}
use Rattle.nettext.specs.States.{last_source, state_of, follows_in, in_order_in, tests_in, complete_in}
use Rattle.nettext.specs.States.{next_state}
use Rattle.nettext.specs.Taking.{verdict_in}

-- ---- the tests

follows-state : (before : List NetworkLine) (line : NetworkLine)
    → follows_in (state_of before) line ≡ network_follows before line
unfolding state_of network_follows
follows-state before (W states metastates arcs) = refl
follows-state before (A a) = refl

last-state : (arcs : List Arc) (from : ℕ)
    → leb (last_source arcs) from ≡ last_passes (λ b. leb b.from from) arcs
unfolding last_source last_passes
last-state [] from = le-leb 0 from (omega arith)
last-state (a ∷ []) from = refl
last-state (a ∷ b ∷ arcs) from = last-state (b ∷ arcs) from

order-state : (before : List NetworkLine) (line : NetworkLine)
    → in_order_in (state_of before) line ≡ network_in_order before line
unfolding state_of network_in_order
order-state before (W states metastates arcs) = refl
order-state before (A a) = last-state (arcs_of before) a.from

tests-state : (lent : ℕ) (before : List NetworkLine) (line : Line)
    → tests_in lent (state_of before) line (network_line line) ≡ line_tests (network_kind lent) before line
unfolding line_tests network_kind state_of
tests-state lent before line =
    rw (follows-state before (network_line line), order-state before (network_line line))

complete-state : (before : List NetworkLine) → complete_in (state_of before) ≡ network_complete before
unfolding state_of network_complete
complete-state before = refl

pub verdict-state : (lent : ℕ) (before : List NetworkLine) (bytes : List ℕ)
    → verdict_in lent (state_of before) bytes ≡ line_verdict (network_kind lent) before bytes
unfolding network_kind
verdict-state lent before bytes =
    λ i. verdict_by (complete-state before i) network_forms (λ line. tests-state lent before line i) bytes

-- ---- the state after one more line

-- the counts stay after the first line
pub counts-more : (before : List NetworkLine) (line : NetworkLine) → 0 < length before
    → counts_of (before ++ (line ∷ [])) ≡ counts_of before
unfolding counts_of
counts-more [] line h = absurd (omega arith)
counts-more (first ∷ before) line h = refl

pub arcs-more : (before : List NetworkLine) (line : NetworkLine)
    → arcs_of (before ++ (line ∷ [])) ≡ arcs_of before ++ arc_in_line line
unfolding arcs_of
arcs-more before line = concat_map-snoc arc_in_line before line

-- an A line more
pub arc-more : (before : List NetworkLine) (a : Arc)
    → length (arcs_of (before ++ (A a ∷ []))) ≡ length (arcs_of before) + 1
unfolding arc_in_line
arc-more before a = ap length (arcs-more before (A a)) ∙ length-append (arcs_of before) (a ∷ [])

last_snoc : (arcs : List Arc) (a : Arc) → last_source (arcs ++ (a ∷ [])) ≡ a.from
unfolding last_source
last_snoc [] a = refl
last_snoc (b ∷ []) a = refl
last_snoc (b ∷ c ∷ arcs) a = last_snoc (c ∷ arcs) a

-- an A line is never the first
pub arc-started : (before : List NetworkLine) (a : Arc) → T (network_follows before (A a)) → 0 < length before
unfolding network_follows
arc-started before a f = ltb→lt 0 (length before) f

-- states with the same fields
same-state : {s t : State} → s.lines ≡ t.lines → s.counts ≡ t.counts → s.arcs ≡ t.arcs
    → s.last ≡ t.last → s ≡ t
same-state a b c d = λ i. record { lines = a i; counts = b i; arcs = c i; last = d i }

pub next-state : (before : List NetworkLine) (line : NetworkLine) → T (network_follows before line)
    → next_state (state_of before) line ≡ state_of (before ++ (line ∷ []))
unfolding state_of network_follows counts_of arcs_of arc_in_line concat_map last_source
next-state [] (W states metastates arcs) f = refl
next-state (first ∷ before) (W states metastates arcs) f =
    absurd (omega (arith, eqb→eq (suc (length before)) 0 f))
next-state before (A a) f =
    same-state (sym (length-append before (A a ∷ []))) (sym (counts-more before (A a) (arc-started before a f)))
    (sym (arc-more before a)) (sym (ap last_source (arcs-more before (A a)) ∙ last_snoc (arcs_of before) a))
