-- Laws about the arcs that leave a state. Sources never descend, so the arcs of smaller sources are the first
-- ones: an arc's source tells on which side of their end it stands, which bisection needs and nothing more.
use Rattle.std.proofs.Math.Path.{◌≡◌, refl, sym}
use Rattle.std.proofs.Common.{ap, ◌∙◌, subst, lt-ltb, le-ltb, ne_eqb, ltb-true, ltb-false, eqb-true}
use mathlib.Core.List.{List, [], ◌∷◌}
use Rattle.std.specs.Prelude.{Bool, true, false, ℕ, zero, suc, ◌+◌, ◌-◌, ◌*◌, ◌/◌, ◌≤◌, ◌<◌, T, leb, ltb, eqb, length, take, drop, get_or, Ok, Err}
use Rattle.std.specs.Result.{is_ok}
use native.Mathlib.Omega.{arith}
use Rattle.std.proofs.Math.Dec.{leb→le}
use Rattle.std.proofs.lemmas.Bool.{eqb-false}
use Rattle.definitions.specs.declared.Counts.{Counts}
use Rattle.definitions.specs.declared.Fault.TheVariants.{Foreign, State}
use Rattle.definitions.specs.declared.Refusal.{Refusal}
use Rattle.definitions.specs.Faults.{Outcome, number_of, fault_of, fault_line, judge}
use Rattle.definitions.specs.Lists.{◌!◌, select}
use Rattle.definitions.specs.Arcs.{Arc, arc_size, arc_of, arcs_in}
use Rattle.definitions.specs.NetworkText.{is_state, never_descending, network_known}
use Rattle.definitions.specs.Leaving.{Part, part_of, leaving, part_handed, part_words}
use Rattle.definitions.proofs.Laws.Lists.Tests.{T_and, by-test}
use Rattle.definitions.proofs.Laws.Lists.Selected.{select-here, select-past}
use Rattle.definitions.proofs.Laws.Networks.KnownNetworks.{arcs-length}
use Rattle.definitions.specs.Said.{result_of}
use Rattle.definitions.proofs.Laws.Results.{answered-ok, refused-err}
use Rattle.arcs.specs.declared.Span.{Span}
use Rattle.arcs.specs.Spans.{span_at}
use Rattle.arcs.specs.Laws.KnownArcs.{arc-at, source-at, known-length, known-arcs}
use Rattle.arcs.specs.Whole.{all_arcs}
use Rattle.arcs.specs.Below.{IsBelow, below}

-- ---- sources that never descend

in-order-rest : (a : Arc) (arcs : List Arc) → T (never_descending (a ∷ arcs)) → T (never_descending arcs)
unfolding never_descending
in-order-rest a [] t = tt
in-order-rest a (b ∷ arcs) t = ((T_and (leb a.from b.from) (never_descending (b ∷ arcs))).0 t).1

source-least : (a : Arc) (arcs : List Arc) (d : Arc) → T (never_descending (a ∷ arcs)) → (i : ℕ)
    → i < length (a ∷ arcs) → a.from ≤ (get_or (a ∷ arcs) i d).from
unfolding never_descending
source-least a arcs d t zero l = omega arith
source-least a [] d t (suc i) l = absurd (omega arith)
source-least a (b ∷ arcs) d t (suc i) l =
    let (first, others) = (T_and (leb a.from b.from) (never_descending (b ∷ arcs))).0 t in
    omega (arith, leb→le a.from b.from first, source-least b arcs d others i (omega arith))

-- ---- how many arcs have smaller sources

module _ (state : ℕ) where
  below-here : (a : Arc) (arcs : List Arc) → a.from < state → below state (a ∷ arcs) ≡ suc (below state arcs)
  below-here a arcs h = ap length (select-here (IsBelow state) a arcs (lt-ltb a.from state h))

  below-past : (a : Arc) (arcs : List Arc) → state ≤ a.from → below state (a ∷ arcs) ≡ below state arcs
  below-past a arcs h = ap length (select-past (IsBelow state) a arcs (le-ltb a.from state h))

  -- by whether an arc has a smaller source
  by-source : {P : Type 0} (a : Arc) → (a.from < state → P) → (state ≤ a.from → P) → P
  by-source a yes-case no-case =
      by-test (ltb a.from state) (λ e. yes-case (ltb-true _ _ e)) (λ e. no-case (ltb-false _ _ e))

  pub below-within : (arcs : List Arc) → below state arcs ≤ length arcs
  unfolding select
  below-within [] = omega arith
  below-within (a ∷ arcs) =
      let rest = below-within arcs in
      by-source a (λ h. omega (arith, below-here a arcs h, rest)) (λ h. omega (arith, below-past a arcs h, rest))

  -- ---- in order

  none_below : (a : Arc) (arcs : List Arc) → T (never_descending (a ∷ arcs)) → state ≤ a.from
      → below state (a ∷ arcs) ≡ 0
  unfolding never_descending select
  none_below a [] t h = below-past a [] h
  none_below a (b ∷ arcs) t h =
      let (first, others) = (T_and (leb a.from b.from) (never_descending (b ∷ arcs))).0 t in
      let up : a.from ≤ b.from = leb→le a.from b.from first in
      below-past a (b ∷ arcs) h ∙ none_below b arcs others (omega arith)

  -- an arc whose source is not smaller stands after all whose is
  below_less : (arcs : List Arc) (d : Arc) → T (never_descending arcs) → (i : ℕ) → i < length arcs
      → state ≤ (get_or arcs i d).from → below state arcs ≤ i
  below_less [] d t i l h = absurd (omega arith)
  below_less (a ∷ arcs) d t zero l h = omega (arith, none_below a arcs t h)
  below_less (a ∷ arcs) d t (suc i) l h =
      let rest = below_less arcs d (in-order-rest a arcs t) i (omega arith) h in
      by-source a (λ s. omega (arith, below-here a arcs s, rest)) (λ s. omega (arith, none_below a arcs t s))

  -- and one whose source is smaller is one of them
  below_more : (arcs : List Arc) (d : Arc) → T (never_descending arcs) → (i : ℕ) → i < length arcs
      → (get_or arcs i d).from < state → i < below state arcs
  below_more [] d t i l h = absurd (omega arith)
  below_more (a ∷ arcs) d t zero l h = omega (arith, below-here a arcs h)
  below_more (a ∷ arcs) d t (suc i) l h =
      let rest = below_more arcs d (in-order-rest a arcs t) i (omega arith) h in
      let first : a.from < state = omega (arith, source-least a arcs d t (suc i) l) in
      omega (arith, below-here a arcs first, rest)

-- no fewer are below a later state
pub below_up : (arcs : List Arc) (state later : ℕ) → state ≤ later → below state arcs ≤ below later arcs
unfolding select
below_up [] state later h = omega arith
below_up (a ∷ arcs) state later h =
    let rest = below_up arcs state later h in
    by-source state a
    (λ s. omega (arith, below-here state a arcs s, below-here later a arcs (omega arith), rest))
    (λ s. by-source later a
    (λ t. omega (arith, below-past state a arcs s, below-here later a arcs t, rest))
    (λ t. omega (arith, below-past state a arcs s, below-past later a arcs t, rest)))

-- those of the next state are these and those that have this source
below_next : (state : ℕ) (arcs : List Arc)
    → below (state + 1) arcs ≡ below state arcs + length (select (λ a. eqb a.from state) arcs)
unfolding select
below_next state [] = refl
below_next state (a ∷ arcs) =
    let rest = below_next state arcs in
    let own : (Arc → Bool) = λ a. eqb a.from state in
    by-test (own a)
    (λ e. let at : a.from ≡ state = eqb-true a.from state e in
    omega (
      arith,
      rest,
      below-here (state + 1) a arcs (omega arith),
      below-past state a arcs (omega arith),
      ap length (select-here own a arcs e),
    ))
    (λ e. let off : (a.from ≡ state → ⊥) = eqb-false a.from state e in
    let past = ap length (select-past own a arcs e) in
    by-source state a
    (λ h. omega (arith, rest, below-here (state + 1) a arcs (omega arith), below-here state a arcs h, past))
    (λ h. omega (arith, rest, below-past (state + 1) a arcs (omega arith), below-past state a arcs h, past)))

-- ---- the arcs of a state stand after those of smaller sources, together

abbrev pub leaves : (state : ℕ) → Arc → Bool
leaves state a = eqb a.from state

module _ (state : ℕ) where
  pub own-after : (arcs : List Arc) → T (never_descending arcs)
      → select (leaves state) (drop (below state arcs) arcs) ≡ select (leaves state) arcs
  unfolding select
  own-after [] t = refl
  own-after (a ∷ arcs) t =
      by-source state a
      (λ h. rw (below-here state a arcs h)
      (own-after arcs (in-order-rest a arcs t)
      ∙ sym (select-past (leaves state) a arcs (ne_eqb a.from state (omega arith)))))
      (λ h. rw (none_below state a arcs t h))

  -- none stands after an arc of a greater source
  own-none : (a : Arc) (arcs : List Arc) → T (never_descending (a ∷ arcs)) → state < a.from
      → select (leaves state) (a ∷ arcs) ≡ []
  unfolding select never_descending
  own-none a [] t h = select-past (leaves state) a [] (ne_eqb a.from state (omega arith))
  own-none a (b ∷ arcs) t h =
      let (first, others) = (T_and (leb a.from b.from) (never_descending (b ∷ arcs))).0 t in
      let up : a.from ≤ b.from = leb→le a.from b.from first in
      select-past (leaves state) a (b ∷ arcs) (ne_eqb a.from state (omega arith))
      ∙ own-none b arcs others (omega arith)

  -- so none stands after the first arc of another state
  pub own-past : (arcs : List Arc) (d : Arc) → T (never_descending arcs) → (i : ℕ) → below state arcs ≤ i
      → i < length arcs → ((get_or arcs i d).from ≡ state → ⊥) → select (leaves state) (drop i arcs) ≡ []
  own-past [] d t i l k other = absurd (omega arith)
  own-past (a ∷ arcs) d t zero l k other =
      by-source state a
      (λ h. absurd (omega (arith, below-here state a arcs h)))
      (λ h. own-none a arcs t (omega arith))
  own-past (a ∷ arcs) d t (suc i) l k other =
      let from : below state arcs ≤ i = by-source state a
      (λ h. omega (arith, below-here state a arcs h))
      (λ h. omega (arith, below-past state a arcs h, none_below state a arcs t h)) in
      own-past arcs d (in-order-rest a arcs t) i from (omega arith) other

-- ---- bisection

-- the end of the arcs of smaller sources lies from `low` to `high`
pub record Bracketed (words : List ℕ) (state low high : ℕ) : Type 0 where
  pub low_at : low ≤ below state (all_arcs words)
  pub high_at : below state (all_arcs words) ≤ high
  pub within : high ≤ length words / arc_size

pub below_all : (words : List ℕ) (state : ℕ) → below state (all_arcs words) ≤ length words / arc_size
below_all words state =
    omega (arith, below-within state (all_arcs words), arcs-length (length words / arc_size) words)

-- before anything is known but that there are some
pub bracket-from : (words : List ℕ) {some state : ℕ} → some ≤ below state (all_arcs words)
    → Bracketed words state some (length words / arc_size)
bracket-from words {some} {state} l =
    record { low_at = l; high_at = below_all words state; within = omega arith }

module _ {words : List ℕ} {state low high : ℕ} (t : T (never_descending (all_arcs words)))
    (b : Bracketed words state low high) {middle : ℕ} (h : middle < high)
  where
    listed : middle < length (all_arcs words)
    listed = omega (arith, arcs-length (length words / arc_size) words, b.within)

    source : (get_or (all_arcs words) middle (arc_of [])).from ≡ words ! (arc_size * middle)
    source =
        let there = arc-at (length words / arc_size) words middle (omega (arith, b.within)) in
        ap (λ (a : Arc). a.from) there ∙ source-at words middle

    pub bracket-up : words ! (arc_size * middle) < state → Bracketed words state (middle + 1) high
    bracket-up l =
        let more = below_more state (all_arcs words) (arc_of []) t middle listed (rw source l) in
        record { low_at = omega (arith, more); high_at = b.high_at; within = b.within }

    pub bracket-down : state ≤ words ! (arc_size * middle) → Bracketed words state low middle
    bracket-down l = record {
      low_at = b.low_at;
      high_at = below_less state (all_arcs words) (arc_of []) t middle listed (rw source l);
      within = omega (arith, b.within);
    }

pub bracket-end : {words : List ℕ} {state low high : ℕ} → Bracketed words state low high → high ≤ low
    → low ≡ below state (all_arcs words)
bracket-end b h = omega (arith, b.low_at, b.high_at)

-- ---- where the part stands

module _ (counts : Counts) (words : List ℕ) (state : ℕ) where
  pub standing-foreign : network_known counts words ≡ false
      → Err (record { fault = Foreign; line = 0 }) ≡ result_of span_at (leaving counts words state)
  unfolding leaving judge result_of
  standing-foreign h = rw h

  pub standing-beyond : network_known counts words ≡ true → is_state counts state ≡ false
      → Err (record { fault = State; line = 0 }) ≡ result_of span_at (leaving counts words state)
  unfolding leaving judge result_of
  standing-beyond h k = rw (h, k)

-- what the searches give where the network and the state are known: how many arcs have a source below the
-- state, and below the next
pub record Searched (counts : Counts) (words : List ℕ) (state first end : ℕ) : Type 0 where
  pub network-known : network_known counts words ≡ true
  pub state_known : is_state counts state ≡ true
  pub first_is : first ≡ below state (arcs_in counts.arcs words)
  pub end_is : end ≡ below (state + 1) (arcs_in counts.arcs words)

module _ (counts : Counts) (words : List ℕ) {state count at next first end : ℕ} where
  pub searched : network_known counts words ≡ true → is_state counts state ≡ true → count ≡ counts.arcs
      → at ≡ state → next ≡ state
      → first ≡ below at (all_arcs (take (arc_size * count) words))
      → end ≡ below (next + 1) (all_arcs (take (arc_size * count) words)) → Searched counts words state first end
  searched h k e a b f g = record {
    network-known = h;
    state_known = k;
    first_is = f ∙ rw (a, known-arcs counts words e h);
    end_is = g ∙ rw (b, known-arcs counts words e h);
  }

module _ {counts : Counts} {words : List ℕ} {state first end : ℕ} (f : Searched counts words state first end) where
  abbrev arcs : List Arc
  arcs = arcs_in counts.arcs words

  abbrev own : ℕ
  own = length (select (λ a. eqb a.from state) arcs)

  pub part-order : first ≤ end
  part-order = omega (arith, f.first_is, f.end_is, below_next state arcs)

  pub part_end : arc_size * end ≤ length words
  part_end =
      let room = known-length counts words refl f.network-known in
      omega (arith, f.end_is, below-within (state + 1) arcs, arcs-length counts.arcs words, room)

  pub standing-part : Ok (record { start = arc_size * first; length = arc_size * (end - first) })
      ≡ result_of span_at (leaving counts words state)
  unfolding leaving judge result_of part_of
  standing-part =
      let size : end - first ≡ own = omega (arith, f.first_is, f.end_is, below_next state arcs) in
      rw (f.network-known, f.state_known, size, f.first_is)

-- ---- the part that is handed out

-- what the code leaves: the fault's number and line, the part's address by that of the lent arcs, four bytes a
-- word, and its words
abbrev pub Handed : Outcome Part → (words : List ℕ) (lent : ℕ × ℕ)
    → (fault line : ℕ) (address : ℕ × ℕ) (part : List ℕ) → Type 0
Handed outcome words lent fault line address part =
    (fault ≡ fault_of outcome)
    × ((line ≡ fault_line outcome)
    × ((address ≡ (lent.0, arc_size * (part_handed outcome).start * 4 + lent.1))
    × (part ≡ part_words words (part_handed outcome))))

module _ (words : List ℕ) (lent : ℕ × ℕ) (outcome : Outcome Part) where
  pub handed-part : {span : Span} → Ok span ≡ result_of span_at outcome
      → Handed outcome words lent 0 0 (lent.0, span.start * 4 + lent.1)
      (take (span.start + span.length - span.start) (drop span.start words))
  unfolding fault_of fault_line part_handed part_words
  handed-part {span} e =
      let a = answered-ok span_at outcome span (sym e) in
      let first : arc_size * a.answer.start ≡ span.start = ap (λ (s : Span). s.start) a.said in
      let own : arc_size * a.answer.count ≡ span.length = ap (λ (s : Span). s.length) a.said in
      let whole : span.start + span.length - span.start ≡ span.length = omega arith in
      rw a.was (refl, (refl, (rw first, rw (whole, own, first))))

  pub handed-nothing : {r : Refusal} → Err r ≡ result_of span_at outcome
      → Handed outcome words lent (number_of r.fault) r.line lent []
  unfolding fault_of fault_line part_handed part_words
  handed-nothing {r} e = rw (refused-err span_at outcome r (sym e))
      (refl, (refl, (ap (λ (n : ℕ). (lent.0, n)) {x = lent.1} {y = 0 + lent.1} (omega arith), refl)))

-- it lies within the lent arcs
pub part-within : (counts : Counts) (words : List ℕ) (state : ℕ) {span : Span}
    → Ok span ≡ result_of span_at (leaving counts words state) → span.start + span.length ≤ length words
part-within counts words state {span} e =
    let arcs : List Arc = arcs_in counts.arcs words in
    by-test (network_known counts words)
    (λ h. by-test (is_state counts state)
    (λ k. let f : Searched counts words state (below state arcs) (below (state + 1) arcs) =
    record { network-known = h; state_known = k; first_is = refl; end_is = refl } in
    let first : span.start ≡ arc_size * below state arcs = cc (standing-part f) in
    let own : span.length ≡ arc_size * (below (state + 1) arcs - below state arcs) = cc (standing-part f) in
    omega (arith, part-order f, part_end f))
    (λ k. absurd (subst T (ap is_ok (e ∙ sym (standing-beyond counts words state h k))) tt)))
    (λ h. absurd (subst T (ap is_ok (e ∙ sym (standing-foreign counts words state h))) tt))
