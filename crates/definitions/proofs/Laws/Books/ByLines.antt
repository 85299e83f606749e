-- What the lines of an accepted book say of a node is what the book's tables hold.
-- Lines come in the order of their numbers, so the first line with a number is the one at that place.
-- The walk by lines (laws/trees/WalkByLines.antt) reaches its model by these.
use Rattle.std.specs.Prelude.{◌≡◌, List, [], ◌∷◌, ◌++◌, Bool, ℕ, zero, suc, ◌+◌, ◌<◌, T, get_or}
use Rattle.std.proofs.Common.{sym, arith, eqb→eq, eq-eqb, ne_eqb}
use Rattle.std.proofs.Math.Path.{ap}
use Rattle.std.proofs.Math.Option.{some}
use Rattle.std.proofs.Math.Dec.{eqb}
use Rattle.std.proofs.Math.ListN.{length}
use Rattle.definitions.specs.Lists.{first_where, map_option}
use Rattle.definitions.specs.Faults.{answered}
use Rattle.definitions.specs.BookLines.{BookLine, H, Q, N, L, R, header_of, leaf, nodes_of, NodeLine, node_line_in}
use Rattle.definitions.specs.BookLines.{node_lines_of, B}
use Rattle.definitions.specs.BookReading.{Lent, book_in_order, read_book}
use Rattle.definitions.specs.Lookup.{node_at}
use Rattle.definitions.specs.TreesGive.{node_line}
use Rattle.definitions.proofs.Laws.Lists.Lists.{map_at}
use Rattle.definitions.proofs.Laws.Books.SaidLines.{line-of-node, nodes-lines, node-lines-count, node-lines-more}
use Rattle.definitions.proofs.Laws.Books.Accepted.{AllFrom, all_more, all-each}
use Rattle.definitions.proofs.Laws.Books.Books.{Fits, accepted-holds}

-- ---- the first element that passes a test

-- of a list where the one with number n passes a test, and no other: the one at its place
first-at : {A : Type 0} (test : A → Bool) (n at i : ℕ) (l : List A) (d : A) → n ≡ at + i
    → AllFrom (λ k x. test x ≡ eqb k n) at l → i < length l → first_where test l ≡ some (get_or l i d)
unfolding first_where
first-at test n at i [] d e a h = absurd (omega arith)
first-at test n at zero (x ∷ l) d e a h = rw (a.0, eq-eqb at n (omega arith))
first-at test n at (suc i) (x ∷ l) d e a h =
    rw (a.0, ne_eqb at n (λ q. omega arith))
    (first-at test n (suc at) i l d (omega arith) a.1 (omega arith))

-- ---- the line of a node

-- the lines of nodes state the numbers of their places
abbrev Numbered : List BookLine → Type 0
Numbered lines = AllFrom (λ i l. l.number ≡ i) 0 (node_lines_of lines)

numbered-new : (lent : Lent) (before : List BookLine) (line : BookLine) → Fits lent before line
    → AllFrom (λ i l. l.number ≡ i) (length (node_lines_of before)) (node_line_in line)
unfolding node_line_in book_in_order
numbered-new lent before line f = rw (node-lines-count before) (go line f.in_order)
  where
    go : (line : BookLine) → T (book_in_order before line)
        → AllFrom (λ i l. l.number ≡ i) (length (nodes_of before)) (node_line_in line)
    go (H half states phones classes nodes) t = tt
    go (Q class phone) t = tt
    go (N node class position yes_node no_node) t = (eqb→eq node (length (nodes_of before)) t, tt)
    go (L node model) t = (eqb→eq node (length (nodes_of before)) t, tt)
    go (B boundary plain) t = tt
    go (R phone state root) t = tt

numbered : (lent : Lent) (text : List ℕ) (lines : List BookLine) → read_book lent text ≡ answered lines
    → Numbered lines
unfolding node_line_in
numbered lent text lines e = (accepted-holds lent Numbered alone more text lines e).holds
  where
    alone : (half states phones classes nodes : ℕ) → Fits lent [] (H half states phones classes nodes)
        → Numbered (H half states phones classes nodes ∷ [])
    alone half states phones classes nodes f =
        rw (line-of-node (H half states phones classes nodes)) tt

    more : (before : List BookLine) (line : BookLine) → header_of (before ++ (line ∷ [])) ≡ header_of before
        → Numbered before → Fits lent before line → Numbered (before ++ (line ∷ []))
    more before line e p f =
        all_more (λ i l. l.number ≡ i) (node_lines_of before) (node_line_in line) (node-lines-more before line) p
        (numbered-new lent before line f)

-- ---- the lines of an accepted book against its tables

-- what stands beyond their ends
no_line : NodeLine
no_line = record { number = 0; node = leaf 0 }

module _ (lent : Lent) (text : List ℕ) (lines : List BookLine)
    (e : read_book lent text ≡ answered lines)
  where
    pub accepted-node-line : (node : ℕ) → node < length (nodes_of lines)
        → node_line lines node ≡ some (node_at (nodes_of lines) node)
    unfolding node_line map_option
    accepted-node-line node h =
        let places = all-each (λ i l (q : l.number ≡ i). ap (λ (m : ℕ). eqb m node) q) 0
        (node_lines_of lines) (numbered lent text lines e) in
        let listed : node < length (node_lines_of lines) = omega (arith, node-lines-count lines) in
        let found = first-at (λ l. eqb l.number node) node 0 node (node_lines_of lines) no_line
        (omega arith) places listed in
        rw (found, nodes-lines lines)
        (ap some (sym (map_at (λ l. l.node) (node_lines_of lines) no_line (leaf 0) node listed)))
