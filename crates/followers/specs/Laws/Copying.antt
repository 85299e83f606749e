-- Laws about appending copies of arcs with another source, one by one.
use Rattle.std.specs.Prelude.{◌≡◌, List, [], ◌∷◌, ◌++◌, ℕ, ◌+◌, ◌*◌, ◌≤◌, ◌<◌, length, take, drop, get_or}
use Rattle.std.proofs.Common.{sym, ap, ap₂, ◌∙◌, append_assoc, append-nil, add-one, arith, length-append, length-drop, length-take-le, take-suc, take_all}
use Rattle.std.proofs.lemmas.List.{length-map}
use Rattle.std.proofs.Math.ListN.{get_or-append, get_or-map}
use Rattle.definitions.specs.Lists.{concat_map, padded}
use Rattle.definitions.specs.Arcs.{Arc, arc_size, arc_of, arc_words, arcs_in}
use Rattle.definitions.proofs.Laws.Lists.Lists.{concat_map-snoc, padded-length, part_at}
use Rattle.definitions.proofs.Laws.Networks.KnownNetworks.{arcs-length}
use Rattle.definitions.proofs.Laws.Lists.Records.{flat-length, arc-sized, arcs-read}
use Rattle.lines.specs.Putting.{put_at}
use Rattle.lines.specs.Laws.Putting.{put-after}
use Rattle.arcs.specs.Laws.KnownArcs.{arc-at}
use Rattle.arcs.specs.Whole.{arc_at}
use Rattle.followers.specs.Spans.{leaving_from, copies_of}
use Rattle.followers.specs.Repeating.{with_copies, Copyable}

-- words after `i` of the copies were appended
pub record Copied (arcs₀ : List ℕ) (count first many from : ℕ) (arcs : List ℕ) (i : ℕ) : Type 0 where
  pub within : i ≤ many
  pub words : arcs
      ≡ padded (length arcs₀)
      (concat_map arc_words (arcs_in count arcs₀ ++ take i (copies_of from first many (arcs_in count arcs₀))))

module _ {arcs₀ : List ℕ} {count first many : ℕ} (s : Copyable arcs₀ count first many) (from : ℕ) where
  abbrev old : List Arc
  old = arcs_in count arcs₀

  abbrev copies : List Arc
  copies = copies_of from first many old

  copies-many : length copies ≡ many
  copies-many =
      length-map (take many (drop first old)) (leaving_from from)
      ∙ length-take-le many (drop first old)
      (omega (arith, length-drop first old, arcs-length count arcs₀, s.within))

  pub copied_none : Copied arcs₀ count first many from arcs₀ 0
  copied_none =
      record {
        within = omega arith;
        words =
            s.held
            ∙ ap (λ (l : List Arc). padded (length arcs₀) (concat_map arc_words l)) (sym (append-nil old));
      }

  module _ {arcs : List ℕ} {i : ℕ} (c : Copied arcs₀ count first many from arcs i) where
    abbrev now : List Arc
    now = old ++ take i copies

    now-many : length now ≡ count + i
    now-many =
        length-append old (take i copies)
        ∙ ap₂ ◌+◌ (arcs-length count arcs₀) (length-take-le i copies (omega (arith, c.within, copies-many)))

    used : length (concat_map arc_words now) ≡ arc_size * (count + i)
    used = flat-length arc_words arc_size arc-sized now ∙ ap (λ (n : ℕ). arc_size * n) now-many

    pub copied-sized : length arcs ≡ length arcs₀
    copied-sized =
        ap length c.words
        ∙ padded-length (length arcs₀) (concat_map arc_words now) (omega (arith, used, c.within, s.room))

    -- the arc at a place before is still there
    still : (place : ℕ) → place < count → get_or old place (arc_of []) ≡ arc_at arcs place
    still place h =
        sym (get_or-append old (take i copies) (arc_of []) place
        (omega (arith, h, arcs-length count arcs₀)))
        ∙ ap (λ (l : List Arc). get_or l place (arc_of [])) (sym (arcs-read (length arcs₀) now))
        ∙ arc-at (length now) (padded (length arcs₀) (concat_map arc_words now)) place
        (omega (arith, h, now-many))
        ∙ ap (λ (l : List ℕ). arc_at l place) (sym c.words)

    next-copy : i < many
        → get_or copies i (leaving_from from (arc_of [])) ≡ leaving_from from (arc_at arcs (first + i))
    next-copy h =
        get_or-map (leaving_from from) (take many (drop first old)) i (arc_of [])
        ∙ ap (leaving_from from)
        (part_at many first old i (arc_of []) h ∙ still (first + i) (omega (arith, h, s.within)))

    pub copied_more : {arcs' : List ℕ} → i < many
        → arcs' ≡ put_at (arc_size * (count + i)) (arc_words (leaving_from from (arc_at arcs (first + i)))) arcs
        → Copied arcs₀ count first many from arcs' (i + 1)
    copied_more h e =
        let a : Arc = get_or copies i (leaving_from from (arc_of [])) in
        let words : List ℕ = arc_words a in
        let longer : now ++ (a ∷ []) ≡ old ++ take (i + 1) copies =
        append_assoc old (take i copies) (a ∷ [])
        ∙ ap (λ (l : List Arc). old ++ l)
        (sym (take-suc copies i (leaving_from from (arc_of [])) (omega (arith, h, copies-many)))
        ∙ ap (λ (n : ℕ). take n copies) (sym (add-one i))) in
        record {
          within = omega (arith, h);
          words =
              e
              ∙ ap (λ (l : List ℕ). put_at (arc_size * (count + i)) l arcs)
              (ap arc_words (sym (next-copy h)))
              ∙ ap₂ (λ (n : ℕ) (l : List ℕ). put_at n words l) (sym used) c.words
              ∙ put-after (length arcs₀) (concat_map arc_words now) words
              ∙ ap (padded (length arcs₀))
              (sym (concat_map-snoc arc_words now a) ∙ ap (concat_map arc_words) longer);
        }

    pub copied_all : many ≤ i → arcs ≡ with_copies arcs₀ count first many from
    copied_all h =
        c.words
        ∙ ap (λ (l : List Arc). padded (length arcs₀) (concat_map arc_words (old ++ l)))
        (take_all i copies (omega (arith, h, copies-many)))
