-- Demand 3, the whole path theorem.
--
-- "Let a book be accepted and its network finished, at any permitted width, whatever trees the college wrote
-- and whatever space and turns the build was lent. Then for every sequence M of models and every sequence S of
-- sounds, an accepting path carries M and S exactly when S begins and ends with silence and the trees give M,
-- in order, to the sounds of S in their full context, with silence beyond both ends. No two accepting paths
-- carry the same M and S. Every arc of the network lies on some accepting path."
--
-- What a reader must believe to read it, each definition in document 01's words:
--   read_book (BookReading.antt), tables_left (Tables.antt)     reading a text, and the tables as it left them
--   header_of (BookLines.antt), tables_book (Tables.antt)       the header and the book that the build is lent
--   build, counts_in, buffers_left (Building.antt)              the build's answer, its counts and its buffers
--   arcs_in (Arcs.antt)                                        the arcs in the words of the arc buffer
--   accepting, Carries (Paths.antt)                           paths and what they carry
--   Given, silent_ends, trees_give (TreesGive.antt)             what the trees give, from the book's lines alone
-- The idea of the proof is in docs/THEOREM.md.
use Rattle.std.specs.Prelude.{◌≡◌, ◌↔◌, List, ℕ, ◌<◌, T, eqb}
use Rattle.definitions.specs.declared.Counts.{Counts}
use Rattle.definitions.specs.Lists.{at_least_one}
use Rattle.definitions.specs.Faults.{Outcome}
use Rattle.definitions.specs.BookLines.{BookLine, header_of}
use Rattle.definitions.specs.BookReading.{Lent, read_book}
use Rattle.definitions.specs.Tables.{Tables, tables_left, tables_book}
use Rattle.definitions.specs.Arcs.{Arc, arcs_in}
use Rattle.definitions.specs.Connecting.{Built}
use Rattle.definitions.specs.Building.{Space, build, buffers_left}
use Rattle.definitions.specs.Paths.{accepting, Carries}
use Rattle.definitions.specs.TreesGive.{Given}

-- Of the lines of a book, the counts of a network and the words of the arc buffer:
module _ (lines : List BookLine) (counts : Counts) (words : List ℕ) where
  abbrev pub counted_arcs : List Arc
  counted_arcs = arcs_in counts.arcs words

  pub record Demand3 : Type 0 where
    -- some accepting path carries M and S exactly when S has silent ends and the trees give M to S;
    pub exactly : (M S : List ℕ)
        → ((places : List ℕ) × Carries counted_arcs places M S) ↔ Given lines M S
    -- two accepting paths that carry the same M and S are the same list of places;
    pub one_path : (M S p q : List ℕ) → Carries counted_arcs p M S → Carries counted_arcs q M S → p ≡ q
    -- every place among the counted arcs lies on some accepting path.
    pub every_arc : (place : ℕ) → place < counts.arcs
        → (places : List ℕ) × T (accepting counted_arcs places) × T (at_least_one (eqb place) places)

-- For every text read into tables of any lengths, and every space and turn limit:
module _ (lent : Lent) (text : List ℕ) (lines : List BookLine) (space : Space) (limit : ℕ) where
  -- the tables as reading left them,
  abbrev pub tables_read : Tables
  tables_read = tables_left lent (read_book lent text)

  -- what the build from them answers,
  abbrev pub build_answer : Outcome Built
  build_answer = build (header_of lines) tables_read space limit

  -- and the words that it leaves in the arc buffer.
  abbrev pub arc_buffer : List ℕ
  arc_buffer = (buffers_left (tables_book (header_of lines) tables_read) space build_answer).arcs
