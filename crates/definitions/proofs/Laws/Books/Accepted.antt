-- Accepted books are sound. What a line that passed its tests says of its node, its root or its class's
-- member is kept by every further line, so it holds of all nodes, roots and members of the book.
-- What the lines say of nodes and roots (laws/books/ByLines.antt) and the whole of demand 3 stand on it.
use Rattle.std.specs.Prelude.{◌≡◌, List, [], ◌∷◌, ◌++◌, Bool, ◌&&◌, ℕ, zero, suc, ◌+◌, ◌*◌, ◌≤◌, ◌<◌, leb, ltb, T, length, get_or}
use Rattle.std.proofs.Common.{sym, subst, leb→le, ltb→lt, eqb→eq, inl, inr}
use native.Mathlib.Omega.{arith}
use Rattle.definitions.specs.declared.Header.{Header}
use Rattle.definitions.specs.Lists.{◌!◌, every, IsIn}
use Rattle.definitions.specs.Faults.{answered}
use Rattle.definitions.specs.Forms.{◌‥◌}
use Rattle.definitions.specs.BookLines.{BookLine, H, Q, N, L, R, header_of, TreeNode, question, leaf, nodes_of}
use Rattle.definitions.specs.BookLines.{node_in, node_line_in, roots_of, root_in, Member, members_of, member_in, Asked}
use Rattle.definitions.specs.BookLines.{asks, B, Root, Boundary, boundary_in, boundaries_of}
use Rattle.definitions.specs.BookReading.{Lent, within_header, book_in_order, children_greater, read_book}
use Rattle.definitions.specs.Tables.{root_of, Contents, book_in, roots_in_force}
use Rattle.definitions.specs.Lookup.{node_at}
use Rattle.definitions.specs.Ranges.{Within, InRange}
use Rattle.definitions.proofs.Laws.Lists.Tests.{T_and, T-three}
use Rattle.definitions.proofs.Laws.Books.Tables.{Heads}
use Rattle.definitions.proofs.Laws.Books.SaidLines.{line-says, members-more, nodes-more, roots-more}
use Rattle.definitions.proofs.Laws.Books.SaidLines.{boundaries-more}
use Rattle.definitions.proofs.Laws.Books.Books.{Fits, accepted-holds}
use Rattle.definitions.proofs.Laws.Trees.Walks.{Forward}
use Rattle.definitions.proofs.Laws.Books.Sound.{Sound}
use Rattle.definitions.proofs.Laws.Books.LeftOut.{Spot}

-- ---- what holds of every element of a list, and of its number, where the first has number `at`

abbrev pub AllFrom : {A : Type 0} → (ℕ → A → Type 0) → ℕ → List A → Type 0
AllFrom P at [] = Unit {0}
AllFrom P at (x ∷ l) = P at x × AllFrom P (suc at) l

pub all_append : {A : Type 0} (P : ℕ → A → Type 0) (at next : ℕ) (k l : List A) → next ≡ at + length k
    → AllFrom P at k → AllFrom P next l → AllFrom P at (k ++ l)
all_append P at next [] l e h i = subst (λ n. AllFrom P n l) {x = next} {y = at} (omega arith) i
all_append P at next (x ∷ k) l e h i = (h.0, all_append P (suc at) next k l (omega arith) h.1 i)

-- a list that one line makes longer
pub all_more : {A : Type 0} (P : ℕ → A → Type 0) (k x : List A) {l : List A} → l ≡ k ++ x
    → AllFrom P 0 k → AllFrom P (length k) x → AllFrom P 0 l
all_more P k x e h i = rw e (all_append P 0 _ k x (omega arith) h i)

-- what follows holds too
pub all-each : {A : Type 0} {P Q : ℕ → A → Type 0} → ((i : ℕ) (x : A) → P i x → Q i x)
    → (at : ℕ) (l : List A) → AllFrom P at l → AllFrom Q at l
all-each f at [] h = tt
all-each f at (x ∷ l) h = (f at x h.0, all-each f (suc at) l h.1)

all-at : {A : Type 0} (P : ℕ → A → Type 0) (at : ℕ) (l : List A) (d : A) → AllFrom P at l
    → (i n : ℕ) → i < length l → n ≡ at + i → P n (get_or l i d)
all-at P at [] d h i n k e = absurd (omega arith)
all-at P at (x ∷ l) d h zero n k e = subst (λ n. P n x) {x = at} {y = n} (omega arith) h.0
all-at P at (x ∷ l) d h (suc i) n k e = all-at P (suc at) l d h.1 i n (omega arith) (omega arith)

-- one of them has a number
pub all_in : {A : Type 0} (P : ℕ → A → Type 0) (at : ℕ) (l : List A) → AllFrom P at l → (x : A) → IsIn x l
    → (n : ℕ) × P n x
all_in P at [] h x i = absurd i
all_in P at (y ∷ l) h x (inl e) = (at, subst (P at) (sym e) h.0)
all_in P at (y ∷ l) h x (inr i) = all_in P (suc at) l h.1 x i

-- ---- the nodes, the roots, the boundary phones and the members of classes of a book

-- what the N line of a node says: a class and a position in range, and children that are greater nodes
pub record AskedFits (header : Header) (asked : Asked) : Type 0 where
  pub class_low : 1 ≤ asked.class
  pub class_high : asked.class ≤ header.classes
  pub position_high : asked.position ≤ 2 * header.half

pub record QuestionFits (header : Header) (node : ℕ) (asked : Asked) (yes_node no_node : ℕ) : Type 0 where
  pub in-range : AskedFits header asked
  pub yes_greater : node < yes_node
  pub yes_listed : yes_node < header.nodes
  pub no_greater : node < no_node
  pub no_listed : no_node < header.nodes

abbrev pub NodeFits : Header → ℕ → TreeNode → Type 0
NodeFits header node (question asked yes_node no_node) =
    QuestionFits header node asked yes_node no_node
NodeFits header node (leaf model) = Within (1 ‥ 65535) model

-- what an R line says of a root, and a B line of a boundary phone
pub record RootFits (header : Header) (i : ℕ) (root : Root) : Type 0 where
  pub spot : Spot header.states root.phone root.state
  pub phone_high : root.phone ≤ header.phones
  pub listed : root.node < header.nodes

pub record BoundaryFits (header : Header) (i : ℕ) (b : Boundary) : Type 0 where
  pub phone_low : 2 ≤ b.phone
  pub phone_high : b.phone ≤ header.phones
  pub plain_low : 1 ≤ b.plain
  pub plain_high : b.plain ≤ header.phones

abbrev pub MemberFits : Header → ℕ → Member → Type 0
MemberFits header i m = m.phone ≤ header.phones

pub record AllFit (header : Header) (lines : List BookLine) : Type 0 where
  pub nodes : AllFrom (NodeFits header) 0 (nodes_of lines)
  pub boundaries : AllFrom (BoundaryFits header) 0 (boundaries_of lines)
  pub roots : AllFrom (RootFits header) 0 (roots_of lines)
  pub members : AllFrom (MemberFits header) 0 (members_of lines)

-- the node, the root or the member of a line that passed its tests
question-fits : (lent : Lent) (before : List BookLine) (node class position yes_node no_node : ℕ)
    → Fits lent before (N node class position yes_node no_node)
    → QuestionFits (header_of before) (length (nodes_of before)) (asks class position) yes_node no_node
unfolding within_header book_in_order children_greater
question-fits lent before node class position yes_node no_node f =
    let header : Header = header_of before in
    let place : node ≡ length (nodes_of before) = eqb→eq _ _ f.in_order in
    let own-number : Bool = ltb node header.nodes in
    let own-class : Bool = leb class header.classes in
    let own-position : Bool = leb position (2 * header.half) in
    let children = (T-three (own-number && own-class && own-position)
    (ltb yes_node header.nodes) (ltb no_node header.nodes)).0 f.within in
    let own = (T-three own-number own-class own-position).0 children.0 in
    let greater = (T_and (ltb node yes_node) (ltb node no_node)).0 f.greater in
    record {
      in-range =
          record {
            class_low = f.ranged.low;
            class_high = leb→le _ _ own.1;
            position_high = leb→le _ _ own.2;
          };
      yes_greater = omega (arith, ltb→lt node yes_node greater.0);
      yes_listed = ltb→lt _ _ children.1;
      no_greater = omega (arith, ltb→lt node no_node greater.1);
      no_listed = ltb→lt _ _ children.2;
    }

nodes-fit : (lent : Lent) (before : List BookLine) (line : BookLine) → Fits lent before line
    → AllFrom (NodeFits (header_of before)) (length (nodes_of before)) (node_in line)
unfolding node_line_in
nodes-fit lent before (H half states phones classes nodes) f = tt
nodes-fit lent before (Q class phone) f = tt
nodes-fit lent before (N node class position yes_node no_node) f =
    (question-fits lent before node class position yes_node no_node f, tt)
nodes-fit lent before (L node model) f = (f.ranged, tt)
nodes-fit lent before (B boundary plain) f = tt
nodes-fit lent before (R phone state root) f = tt

pub roots-fit : (lent : Lent) (before : List BookLine) (line : BookLine) → Fits lent before line
    → AllFrom (RootFits (header_of before)) (length (roots_of before)) (root_in line)
unfolding root_in within_header
roots-fit lent before (H half states phones classes nodes) f = tt
roots-fit lent before (Q class phone) f = tt
roots-fit lent before (N node class position yes_node no_node) f = tt
roots-fit lent before (L node model) f = tt
roots-fit lent before (B boundary plain) f = tt
roots-fit lent before (R phone state root) f =
    let header : Header = header_of before in
    let parts = (T-three (leb phone header.phones) (leb state header.states) (ltb root header.nodes)
    ).0 f.within in
    let spot : Spot header.states phone state =
    record {
      phone_low = f.ranged.0.low;
      state_low = f.ranged.1.low;
      state_high = leb→le _ _ parts.1;
    } in
    (record { spot = spot; phone_high = leb→le _ _ parts.0; listed = ltb→lt _ _ parts.2 }, tt)

boundaries-fit : (lent : Lent) (before : List BookLine) (line : BookLine) → Fits lent before line
    → AllFrom (BoundaryFits (header_of before)) (length (boundaries_of before)) (boundary_in line)
unfolding boundary_in within_header
boundaries-fit lent before (H half states phones classes nodes) f = tt
boundaries-fit lent before (Q class phone) f = tt
boundaries-fit lent before (N node class position yes_node no_node) f = tt
boundaries-fit lent before (L node model) f = tt
boundaries-fit lent before (B boundary plain) f =
    let phones : ℕ = (header_of before).phones in
    let parts = (T_and (leb boundary phones) (leb plain phones)).0 f.within in (
      record {
        phone_low = f.ranged.0.low;
        phone_high = leb→le _ _ parts.0;
        plain_low = f.ranged.1.low;
        plain_high = leb→le _ _ parts.1;
      },
      tt,
    )
boundaries-fit lent before (R phone state root) f = tt

members-fit : (lent : Lent) (before : List BookLine) (line : BookLine) → Fits lent before line
    → AllFrom (MemberFits (header_of before)) (length (members_of before)) (member_in line)
unfolding member_in within_header
members-fit lent before (H half states phones classes nodes) f = tt
members-fit lent before (Q class phone) f =
    let header : Header = header_of before in
    let parts = (T_and (leb class header.classes) (leb phone header.phones)).0 f.within in
    (leb→le _ _ parts.1, tt)
members-fit lent before (N node class position yes_node no_node) f = tt
members-fit lent before (L node model) f = tt
members-fit lent before (B boundary plain) f = tt
members-fit lent before (R phone state root) f = tt

-- so all nodes, roots and members of an accepted book fit
pub accepted-fit : (lent : Lent) (text : List ℕ) (lines : List BookLine) → read_book lent text ≡ answered lines
    → AllFit (header_of lines) lines
unfolding node_line_in boundary_in root_in member_in
accepted-fit lent text lines e =
    (accepted-holds lent (λ lines. AllFit (header_of lines) lines) alone more text lines e).holds
  where
    alone : (half states phones classes nodes : ℕ) → Fits lent [] (H half states phones classes nodes)
        → (let first : List BookLine = H half states phones classes nodes ∷ [] in
        AllFit (header_of first) first)
    alone half states phones classes nodes f =
        let says = line-says (H half states phones classes nodes) in
        record {
          nodes = rw says.nodes-said tt;
          boundaries = rw says.boundaries-said tt;
          roots = rw says.roots-said tt;
          members = rw says.members-said tt;
        }

    more : (before : List BookLine) (line : BookLine) → header_of (before ++ (line ∷ [])) ≡ header_of before
        → AllFit (header_of before) before → Fits lent before line
        → AllFit (header_of (before ++ (line ∷ []))) (before ++ (line ∷ []))
    more before line e a f =
        let header : Header = header_of before in
        rw e record {
          nodes = all_more (NodeFits header) (nodes_of before) (node_in line) (nodes-more before line)
              a.nodes (nodes-fit lent before line f);
          boundaries = all_more (BoundaryFits header) (boundaries_of before) (boundary_in line)
              (boundaries-more before line) a.boundaries (boundaries-fit lent before line f);
          roots = all_more (RootFits header) (roots_of before) (root_in line) (roots-more before line)
              a.roots (roots-fit lent before line f);
          members = all_more (MemberFits header) (members_of before) (member_in line) (members-more before line)
              a.members (members-fit lent before line f);
        }

-- ---- soundness

-- beyond the list stands a leaf
question-listed : (nodes : List TreeNode) (node : ℕ) (asked : Asked) (yes_node no_node : ℕ)
    → node_at nodes node ≡ question asked yes_node no_node → node < length nodes
question-listed [] node asked yes_node no_node e =
    let z : ◌≡◌ {A = ℕ} 0 1 = cc in omega arith
question-listed (x ∷ nodes) zero asked yes_node no_node e = omega arith
question-listed (x ∷ nodes) (suc node) asked yes_node no_node e =
    let further = question-listed nodes node asked yes_node no_node e in omega arith

-- beyond the list stands root 0, which is a node too
root-listed : (header : Header) (roots : List ℕ) (i : ℕ) → 0 < header.nodes
    → T (every (λ root. ltb root header.nodes) roots) → roots ! i < header.nodes
unfolding every
root-listed header [] i h a = h
root-listed header (root ∷ roots) zero h a =
    ltb→lt _ _ ((T_and (ltb root header.nodes) (every (λ root. ltb root header.nodes) roots)).0 a).0
root-listed header (root ∷ roots) (suc i) h a =
    root-listed header roots i h
    ((T_and (ltb root header.nodes) (every (λ root. ltb root header.nodes) roots)).0 a).1

-- nodes that fit
module _ (header : Header) (nodes : List TreeNode) (fit : AllFrom (NodeFits header) 0 nodes) where
  node-fits : (node : ℕ) (x : TreeNode) → node_at nodes node ≡ x → node < length nodes → NodeFits header node x
  node-fits node x q h =
      subst (NodeFits header node) q (all-at _ 0 nodes (leaf 0) fit node node h (omega arith))

  pub question-fitting : (node : ℕ) (asked : Asked) (yes_node no_node : ℕ)
      → node_at nodes node ≡ question asked yes_node no_node
      → QuestionFits header node asked yes_node no_node
  question-fitting node asked yes_node no_node q =
      node-fits node _ q (question-listed nodes node asked yes_node no_node q)

  pub leaf-fitting : (node model : ℕ) → node < length nodes → node_at nodes node ≡ leaf model
      → Within (1 ‥ 65535) model
  leaf-fitting node model h q = node-fits node (leaf model) q h

  pub fitting-forward : header.nodes ≡ length nodes → Forward nodes
  fitting-forward count node asked yes_node no_node q =
      let f = question-fitting node asked yes_node no_node q in (
        record { greater = f.yes_greater; listed = rw (← count) f.yes_listed },
        record { greater = f.no_greater; listed = rw (← count) f.no_listed },
      )

-- a header with its ranges, contents with its counts, nodes that fit, and roots in force that are nodes
module _ (header : Header) (contents : Contents) (ranged : InRange header) (heads : Heads header contents)
    (nodes : AllFrom (NodeFits header) 0 contents.nodes)
    (force : T (every (λ root. ltb root header.nodes) (roots_in_force contents)))
  where
    pub fitting-sound : Sound (book_in contents)
    unfolding root_of book_in
    fitting-sound = record {
      some_state = omega (arith, ranged.states_range.low, heads.states);
      some_phone = omega (arith, ranged.phones_range.low, heads.phones);
      forward = fitting-forward header contents.nodes nodes heads.nodes;
      position = λ node asked yes_node no_node q.
          omega (
            arith,
            (question-fitting header contents.nodes nodes node asked yes_node no_node q).in-range.position_high,
            heads.half,
          );
      model = λ node model h q. (leaf-fitting header contents.nodes nodes node model h q).low;
      root = λ phone state.
          rw (← heads.nodes) (root-listed header (roots_in_force contents) _ ranged.nodes_range.low force);
    }

module _ (lent : Lent) (text : List ℕ) (lines : List BookLine)
    (e : read_book lent text ≡ answered lines)
  where
    fit : AllFit (header_of lines) lines
    fit = accepted-fit lent text lines e

    pub accepted-question : (node : ℕ) (asked : Asked) (yes_node no_node : ℕ)
        → node_at (nodes_of lines) node ≡ question asked yes_node no_node
        → QuestionFits (header_of lines) node asked yes_node no_node
    accepted-question = question-fitting (header_of lines) (nodes_of lines) fit.nodes
