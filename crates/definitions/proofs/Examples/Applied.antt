-- Demand 3 is no empty promise: its premises hold of document 01's example, by computing, of the same trees at
-- half-width 2, where they ask about the phone two places to the left, and of two trees for each phone, where
-- an arc leads from the first state of each metastate to its second. So its claims hold of these networks, and
-- some are drawn: a path carries what the trees give, and none carries what they do not give.
-- A combination's own matrix (Schuster and Hori) would forget the phone two places to the left: at half-width 2
-- their network has a path that carries 10, 20, 21, 10 and 1, 2, 2, 1. Ours has none.
use Rattle.std.specs.Prelude.{◌≡◌, refl, List, [], ◌∷◌, ℕ, ◌*◌, set}
use Rattle.std.proofs.Math.Option.{Option, some}
use Prim.Native.String.{String}
use Rattle.std.proofs.Common.{arith}
use Rattle.definitions.specs.declared.Counts.{Counts}
use Rattle.definitions.specs.Faults.{Outcome, answered, refused}
use Rattle.definitions.specs.BookLines.{BookLine, H, Q, N, L, R, header_of}
use Rattle.definitions.specs.BookReading.{Lent, node_size, read_book}
use Rattle.definitions.specs.Growing.{finished}
use Rattle.definitions.specs.Connecting.{Network, Built, no_network}
use Rattle.definitions.specs.Building.{network_in, counts_in}
use Rattle.definitions.specs.Paths.{Carries}
use Rattle.definitions.proofs.Examples.Everything.{everything}
use Rattle.definitions.proofs.Examples.Example.{input_lines, text_of, lent, space_for, example}
use Rattle.definitions.specs.Demand.{Demand3, counted_arcs, build_answer, arc_buffer}
use Rattle.definitions.proofs.Demand.Demand.{demand3}

network_or : Outcome Built → Network
network_or (answered built) = network_in built
network_or (refused r) = no_network

-- a text read into tables, its lines, and how many metastates and arcs its network has
pub record Sample : Type 0 where
  pub tables : Lent
  pub text : List ℕ
  pub lines : List BookLine
  pub metastates : ℕ
  pub arcs : ℕ

-- built in space for 3 combinations and just so many metastates and arcs, with a turn for each metastate
module _ (b : Sample) where
  open b use {tables, text, lines, metastates, arcs}

  answer : Outcome Built
  answer = build_answer tables text lines (space_for 3 metastates arcs) metastates

  network : Network
  network = network_or answer

  pub counts : Counts
  counts = counts_in (header_of lines).states network

  pub words : List ℕ
  words = arc_buffer tables text lines (space_for 3 metastates arcs) metastates

  abbrev SomePath : (M S : List ℕ) → Type 0
  SomePath M S = (places : List ℕ) × Carries (counted_arcs lines counts words) places M S

  holds : read_book tables text ≡ answered lines → answer ≡ answered (finished metastates network)
      → Demand3 lines counts words
  unfolding everything answer words counts
  holds accepted built =
      demand3 tables text lines (space_for 3 metastates arcs) metastates accepted metastates network built

-- ---- document 01's own header, and the same with half-width 2

-- the example's book with another first line
example_with : (heading : String) → (half metastates arcs : ℕ) → Sample
example_with heading half metastates arcs =
    record {
      tables = lent;
      text = text_of (set input_lines 0 heading);
      lines =
          H half 1 2 1 4
          ∷ Q 1 1
          ∷ L 0 10
          ∷ N 1 1 0 2 3
          ∷ L 2 20
          ∷ L 3 21
          ∷ R 1 1 0
          ∷ R 2 1 1
          ∷ [];
      metastates = metastates;
      arcs = arcs;
    }

pub narrow_book : Sample
narrow_book = example_with "H     1     1     2     1     4" 1 4 11

pub wide_book : Sample
wide_book = example_with "H     2     1     2     1     4" 2 8 21

pub narrow : Demand3 narrow_book.lines (counts narrow_book) (words narrow_book)
unfolding everything example network_or network answer example_with narrow_book
narrow = holds narrow_book refl refl

pub wide : Demand3 wide_book.lines (counts wide_book) (words wide_book)
unfolding everything example network_or network answer example_with wide_book
wide = holds wide_book refl refl

-- what the trees give to 1, 2, 1, and to 1, 2, 2, 1
pub given-narrow : SomePath narrow_book (10 ∷ 20 ∷ 10 ∷ []) (1 ∷ 2 ∷ 1 ∷ [])
unfolding everything example_with narrow_book
given-narrow = (narrow.exactly (10 ∷ 20 ∷ 10 ∷ []) (1 ∷ 2 ∷ 1 ∷ [])).1 (tt, refl)

pub given-wide : SomePath wide_book (10 ∷ 20 ∷ 20 ∷ 10 ∷ []) (1 ∷ 2 ∷ 2 ∷ 1 ∷ [])
unfolding everything example_with wide_book
given-wide = (wide.exactly (10 ∷ 20 ∷ 20 ∷ 10 ∷ []) (1 ∷ 2 ∷ 2 ∷ 1 ∷ [])).1 (tt, refl)

-- what they do not give
pub not-given-wide : SomePath wide_book (10 ∷ 20 ∷ 21 ∷ 10 ∷ []) (1 ∷ 2 ∷ 2 ∷ 1 ∷ []) → ⊥
unfolding everything example_with wide_book
not-given-wide path =
    let (silent, gives) = (wide.exactly (10 ∷ 20 ∷ 21 ∷ 10 ∷ []) (1 ∷ 2 ∷ 2 ∷ 1 ∷ [])).0 path in
    let same : ◌≡◌ {A = Option (List ℕ)} (some (10 ∷ 20 ∷ 20 ∷ 10 ∷ [])) (some (10 ∷ 20 ∷ 21 ∷ 10 ∷ [])) =
    gives in
    let z : ◌≡◌ {A = ℕ} 20 21 = cc in
    omega arith

-- ---- two states for each phone: the example's trees for the first, a leaf for the second

pub twice_book : Sample
twice_book =
    record {
      tables = record { nodes = node_size * 6; classes = 1; roots = 4; plains = 4 };
      text =
          text_of
          ("H     1     2     2     1     6"
          ∷ "Q     1     1"
          ∷ "L     0    10"
          ∷ "L     1    11"
          ∷ "N     2     1     0     3     4"
          ∷ "L     3    20"
          ∷ "L     4    21"
          ∷ "L     5    22"
          ∷ "R     1     1     0"
          ∷ "R     1     2     1"
          ∷ "R     2     1     2"
          ∷ "R     2     2     5"
          ∷ []);
      lines =
          H 1 2 2 1 6
          ∷ Q 1 1
          ∷ L 0 10
          ∷ L 1 11
          ∷ N 2 1 0 3 4
          ∷ L 3 20
          ∷ L 4 21
          ∷ L 5 22
          ∷ R 1 1 0
          ∷ R 1 2 1
          ∷ R 2 1 2
          ∷ R 2 2 5
          ∷ [];
      metastates = 4;
      arcs = 15;
    }

pub twice : Demand3 twice_book.lines (counts twice_book) (words twice_book)
unfolding everything example network_or network answer twice_book
twice = holds twice_book refl refl

-- what the trees give to 1, 2, 2, 1: two models for each phone
pub given-twice : SomePath twice_book (10 ∷ 11 ∷ 20 ∷ 22 ∷ 21 ∷ 22 ∷ 10 ∷ 11 ∷ []) (1 ∷ 2 ∷ 2 ∷ 1 ∷ [])
unfolding everything twice_book
given-twice =
    (twice.exactly (10 ∷ 11 ∷ 20 ∷ 22 ∷ 21 ∷ 22 ∷ 10 ∷ 11 ∷ []) (1 ∷ 2 ∷ 2 ∷ 1 ∷ [])).1 (tt, refl)
