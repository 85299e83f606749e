-- The B and R lines of a book so far: boundary phones ascend, every place before the next R line's is settled, and the
-- words of the table of roots name what the R lines name. Each line that fits keeps it; so it holds of an accepted
-- book, and of what the code keeps from line to line.
use Rattle.std.specs.Prelude.{◌≡◌, refl, ℕ, ◌<◌, T, ltb, eqb, length}
use Rattle.std.proofs.Common.{sym, ap, ◌∙◌, subst, ⊎_elim, arith, ltb→lt, eqb→eq}
use mathlib.Core.List.{List, [], ◌∷◌, ◌++◌, append-nil, map-append}
use Rattle.definitions.specs.declared.Header.{Header}
use Rattle.definitions.specs.Lists.{last_passes, occurrences, IsIn}
use Rattle.definitions.specs.Faults.{answered}
use Rattle.definitions.specs.BookLines.{BookLine, H, Q, N, L, B, R, header_of, Boundary, boundaries_of}
use Rattle.definitions.specs.BookLines.{boundary_in, is_boundary, Root, roots_of, root_in, root_names, root_words}
use Rattle.definitions.specs.BookLines.{no_root}
use Rattle.definitions.specs.BookReading.{Lent, book_follows, book_in_order, left_out_to, read_book}
use Rattle.definitions.proofs.Laws.Lists.Tests.{T-three}
use Rattle.definitions.proofs.Laws.Lists.Members.{of-append, of-single}
use Rattle.definitions.proofs.Laws.Books.SaidLines.{none-says, line-says, boundaries-more, roots-more}
use Rattle.definitions.proofs.Laws.Books.LeftOut.{Rooted, rooted_none, rooted_more}
use Rattle.definitions.proofs.Laws.Books.GivenWords.{Unnamed, names-none, names_more}
use Rattle.definitions.proofs.Laws.Books.Books.{Fits, accepted-holds}
use Rattle.definitions.proofs.Laws.Books.Accepted.{roots-fit}

-- ---- boundary phones that ascend

-- what the last of them comes before, all of them come before
abbrev pub Rising : List Boundary → Type 0
Rising boundaries =
    (next : ℕ) → T (last_passes (λ b. ltb b.phone next) boundaries) → (b : Boundary) → IsIn b boundaries
    → b.phone < next

last_of : (next : ℕ) (boundaries : List Boundary) (b : Boundary)
    → last_passes (λ x. ltb x.phone next) (boundaries ++ (b ∷ [])) ≡ ltb b.phone next
unfolding last_passes
last_of next [] b = refl
last_of next (x ∷ []) b = refl
last_of next (x ∷ y ∷ boundaries) b = last_of next (y ∷ boundaries) b

rising-more : (boundaries : List Boundary) (b : Boundary) → Rising boundaries
    → T (last_passes (λ x. ltb x.phone b.phone) boundaries) → Rising (boundaries ++ (b ∷ []))
rising-more boundaries b rising after next t x i =
    let last : b.phone < next = ltb→lt _ _ (subst T (last_of next boundaries b) t) in
    ⊎_elim (λ own. omega (arith, rising b.phone after x own, last))
    (λ own. subst (λ (y : Boundary). y.phone < next) (sym (of-single b x own)) last)
    (of-append x boundaries (b ∷ []) i)

-- a B line that comes next names a phone that none before it names
pub next-unnamed : (boundaries : List Boundary) (next : ℕ) → Rising boundaries
    → T (last_passes (λ b. ltb b.phone next) boundaries) → Unnamed boundaries next
next-unnamed boundaries next rising t b i e = omega (arith, rising next t b i, e)

-- ---- the lines so far

pub record OrderedBy (header : Header) (boundaries : List Boundary) (roots : List Root) : Type 0 where
  pub rising : Rising boundaries
  pub rooted : Rooted header.states (is_boundary boundaries) roots
  -- the words of the table of roots name each node as often as the R lines do
  pub named : (x : ℕ) → x < no_root → occurrences x (root_words header roots) ≡ occurrences x (root_names roots)

abbrev pub Ordered : List BookLine → Type 0
Ordered lines = OrderedBy (header_of lines) (boundaries_of lines) (roots_of lines)

nothing-ordered : (header : Header) → OrderedBy header [] []
unfolding occurrences
nothing-ordered header =
    record {
      rising = λ next t b i. absurd i;
      rooted = rooted_none _ _;
      named = λ x node. names-none header x node;
    }

pub ordered-none : Ordered []
ordered-none = rw (none-says.boundaries-said, none-says.roots-said) (nothing-ordered _)

pub ordered-first : (half states phones classes nodes : ℕ) → Ordered (H half states phones classes nodes ∷ [])
unfolding boundary_in root_in
ordered-first half states phones classes nodes =
    let says = line-says (H half states phones classes nodes) in
    rw (says.boundaries-said, says.roots-said) (nothing-ordered _)

module _ (lent : Lent) where
  line-ordered : (before : List BookLine) (line : BookLine) → Ordered before → Fits lent before line
      → OrderedBy (header_of before) (boundaries_of before ++ boundary_in line) (roots_of before ++ root_in line)
  unfolding boundary_in root_in book_follows book_in_order left_out_to
  line-ordered before (H half states phones classes nodes) p f = simp append-nil p
  line-ordered before (Q class phone) p f = simp append-nil p
  line-ordered before (N node class position yes_node no_node) p f = simp append-nil p
  line-ordered before (L node model) p f = simp append-nil p
  line-ordered before (B boundary plain) p f =
      none_yet (roots_of before)
      (eqb→eq _ 0 ((T-three (ltb 0 (length before)) _ (eqb (length (roots_of before)) 0)).0 f.follows).2)
    where
      b : Boundary
      b = record { phone = boundary; plain = plain }

      none_yet : (roots : List Root) → length roots ≡ 0
          → OrderedBy (header_of before) (boundaries_of before ++ (b ∷ [])) (roots ++ [])
      none_yet [] e =
          record {
            rising = rising-more (boundaries_of before) b p.rising f.in_order;
            rooted = rooted_none _ _;
            named = (nothing-ordered (header_of before)).named;
          }
      none_yet (r ∷ roots) e = absurd (omega arith)
  line-ordered before (R phone state root) p f =
      let r : Root = record { phone = phone; state = state; node = root } in
      let fits = (roots-fit lent before (R phone state root) f).0 in
      simp append-nil (record {
        rising = p.rising;
        rooted = rooted_more p.rooted r fits.spot f.in_order;
        named = λ x node.
            names_more (header_of before) p.rooted r fits.spot fits.phone_high f.in_order x node
            (p.named x node) ∙ ap (occurrences x) (sym (map-append (λ (y : Root). y.node) (roots_of before) (r ∷ [])));
      })

  -- one line more
  pub ordered-more : (before : List BookLine) (line : BookLine) → header_of (before ++ (line ∷ [])) ≡ header_of before
      → Ordered before → Fits lent before line → Ordered (before ++ (line ∷ []))
  ordered-more before line e p f =
      rw (e, boundaries-more before line, roots-more before line) (line-ordered before line p f)

  pub accepted-ordered : (text : List ℕ) (lines : List BookLine) → read_book lent text ≡ answered lines
      → Ordered lines
  accepted-ordered text lines e =
      (accepted-holds lent Ordered (λ half states phones classes nodes f. ordered-first half states phones classes nodes)
      ordered-more text lines e).holds
