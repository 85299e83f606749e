-- Document 02, P4, the join: document 01's example joined with two words, word for word and at its limits, a word of
-- silence, a network whose FINAL is left, and what is foreign. Then the path statement applied to the first of these:
-- which models and words have a path is drawn from it, and no path is computed.
use Rattle.std.specs.Prelude.{◌≡◌, refl, List, [], ◌∷◌, ℕ, ◌*◌, T, length, set}
use Rattle.std.proofs.Math.Option.{Option, some}
use Rattle.std.proofs.Common.{arith}
use Rattle.definitions.specs.declared.Counts.{Counts}
use Rattle.definitions.specs.Faults.{Outcome, answered, refused, and_then}
use Rattle.definitions.specs.Lists.{concat_map, cleared}
use Rattle.definitions.specs.BookLines.{BookLine, header_of}
use Rattle.definitions.specs.BookReading.{read_book}
use Rattle.definitions.specs.Arcs.{arc_size, arc_words, arcs_in}
use Rattle.definitions.specs.Growing.{Grown}
use Rattle.definitions.specs.Connecting.{Network, Built, no_network}
use Rattle.definitions.specs.Building.{network_in, counts_in}
use Rattle.definitions.specs.Paths.{Carries, final_last}
use Rattle.definitions.specs.WordBooks.{words_in}
use Rattle.definitions.specs.Joining.{Joined, joined_size, joined_words, JoinSpace, join, join_left}
use Rattle.definitions.specs.Demand.{Demand3, build_answer, arc_buffer}
use Rattle.definitions.proofs.Demand.Demand.{demand3}
use Rattle.definitions.proofs.Demand.Endings.{finished-final}
use Rattle.definitions.proofs.Joined.Spoken.{spoken-silent}
use Rattle.definitions.specs.JoinedPaths.{JoinedPaths}
use Rattle.definitions.proofs.Joined.JoinedPaths.{joined-paths}
use Rattle.definitions.proofs.Examples.Everything.{everything}
use Rattle.definitions.proofs.Examples.Example.{input, lent, space_for, Result, gives, refuses, read, given}
use Rattle.definitions.proofs.Examples.Example.{Case, ◌is◌, Holds, example}
use Rattle.definitions.proofs.Examples.WordBooks.{word_lines, word_table}

-- ---- document 01's example, built

lines : List BookLine
lines = lines_in (read_book lent input)
  where
    lines_in : Outcome (List BookLine) → List BookLine
    lines_in (answered read) = read
    lines_in (refused r) = []

net : Network
net = net_in (build_answer lent input lines (space_for 3 4 11) 4)
  where
    net_in : Outcome Built → Network
    net_in (answered built) = network_in built
    net_in (refused r) = no_network

counts : Counts
counts = counts_in (header_of lines).states net

arcs : List ℕ
arcs = arc_buffer lent input lines (space_for 3 4 11) 4

-- ---- joins

-- space for so many joined states and arcs
room : (states arcs : ℕ) → JoinSpace
room states arcs = record { states = joined_size * states; arcs = arc_size * arcs }

-- the words of the joined states, and of the joined arcs
states : Outcome (Grown Joined) → Result
states outcome = given (and_then outcome (λ net. answered (concat_map joined_words net.table)))

joined_arcs : Outcome (Grown Joined) → Result
joined_arcs outcome = given (and_then outcome (λ net. answered (concat_map arc_words net.arcs)))

-- the example with the words 2, and 2 2
two : JoinSpace → Outcome (Grown Joined)
two space = join counts arcs 2 word_table space

pub example_joined : List Case
example_joined =
    states (two (room 9 14)) is gives
    (0 ∷ 0 ∷ 0
    ∷ 1 ∷ 0 ∷ 2
    ∷ 2 ∷ 0 ∷ 1
    ∷ 2 ∷ 0 ∷ 2
    ∷ 3 ∷ 0 ∷ 1
    ∷ 3 ∷ 2 ∷ 1
    ∷ 4 ∷ 0 ∷ 2
    ∷ 5 ∷ 0 ∷ 1
    ∷ 5 ∷ 2 ∷ 1
    ∷ [])
    ∷ joined_arcs (two (room 9 14)) is gives
    (0 ∷ 2 ∷ 10 ∷ 0
    ∷ 2 ∷ 3 ∷ 10 ∷ 0
    ∷ 2 ∷ 4 ∷ 20 ∷ 1
    ∷ 2 ∷ 5 ∷ 20 ∷ 2
    ∷ 3 ∷ 1 ∷ 0 ∷ 0
    ∷ 4 ∷ 6 ∷ 10 ∷ 0
    ∷ 4 ∷ 7 ∷ 21 ∷ 1
    ∷ 4 ∷ 8 ∷ 21 ∷ 2
    ∷ 5 ∷ 7 ∷ 21 ∷ 0
    ∷ 6 ∷ 1 ∷ 0 ∷ 0
    ∷ 7 ∷ 6 ∷ 10 ∷ 0
    ∷ 7 ∷ 7 ∷ 21 ∷ 1
    ∷ 7 ∷ 8 ∷ 21 ∷ 2
    ∷ 8 ∷ 7 ∷ 21 ∷ 0
    ∷ [])
    ∷ read (two (room 8 14)) is refuses 31 0
    ∷ read (two (room 1 14)) is refuses 31 0
    ∷ read (two (room 9 13)) is refuses 32 0
    ∷ read (two (room 1 0)) is refuses 31 0
    ∷ gives (join_left (room 8 14) (two (room 8 14))).arcs is gives (cleared 56)
    ∷ []

pub example_joined-hold : Holds example_joined
unfolding everything example lines net counts arcs word_lines word_table room states joined_arcs two example_joined
example_joined-hold = (refl, (refl, (refl, (refl, (refl, (refl, (refl, tt)))))))

-- A word that is silence: "then by word, closing silence first", and its one phone leads back to 0, 1. A network that
-- no build leaves: FINAL is expanded second, though nothing enters it.
silence : Outcome (Grown Joined)
silence = join counts arcs 1 (1 ∷ 1 ∷ cleared 63) (room 4 4)

left_final : Outcome (Grown Joined)
left_final =
    join (record { states = 1; metastates = 1; arcs = 1 }) (1 ∷ 2 ∷ 5 ∷ 0 ∷ []) 2 word_table (room 3 1)

pub other_joins : List Case
other_joins =
    states silence is gives
    (0 ∷ 0 ∷ 0
    ∷ 1 ∷ 0 ∷ 2
    ∷ 2 ∷ 0 ∷ 1
    ∷ 2 ∷ 0 ∷ 2
    ∷ [])
    ∷ joined_arcs silence is gives
    (0 ∷ 2 ∷ 10 ∷ 0
    ∷ 2 ∷ 3 ∷ 10 ∷ 0
    ∷ 2 ∷ 2 ∷ 10 ∷ 1
    ∷ 3 ∷ 1 ∷ 0 ∷ 0
    ∷ [])
    ∷ states left_final is gives
    (0 ∷ 0 ∷ 0
    ∷ 1 ∷ 0 ∷ 2
    ∷ 2 ∷ 0 ∷ 2
    ∷ [])
    ∷ joined_arcs left_final is gives (1 ∷ 2 ∷ 5 ∷ 0 ∷ [])
    ∷ []

pub other_joins-hold : Holds other_joins
unfolding everything example lines net counts arcs word_lines word_table room states joined_arcs silence left_final
    other_joins
other_joins-hold = (refl, (refl, (refl, (refl, tt))))

-- 18: no words, words beyond the count, a table that is too short, a word without a phone, of more than 64 or with
-- another number after its phones, a phone 0 or 65; and, before 31, an arc that leaves no state.
altered : (place value : ℕ) → Result
altered place value = read (join counts arcs 2 (set word_table place value) (room 9 14))

pub foreign : List Case
foreign =
    read (join counts arcs 0 [] (room 9 14)) is refuses 18 0
    ∷ read (join counts arcs 1 word_table (room 9 14)) is refuses 18 0
    ∷ read (join counts arcs 3 word_table (room 9 14)) is refuses 18 0
    ∷ altered 65 0 is refuses 18 0
    ∷ altered 65 65 is refuses 18 0
    ∷ altered 65 1 is refuses 18 0
    ∷ altered 66 0 is refuses 18 0
    ∷ altered 66 65 is refuses 18 0
    ∷ read (join counts (set arcs 0 6) 2 word_table (room 1 0)) is refuses 18 0
    ∷ []

pub foreign-hold : Holds foreign
unfolding everything example lines net counts arcs word_lines word_table room altered foreign
foreign-hold = (refl, (refl, (refl, (refl, (refl, (refl, (refl, (refl, (refl, tt)))))))))

-- ---- the path statement of the example

pub joined_net : Grown Joined
joined_net = joined_in (two (room 9 14))
  where
    joined_in : Outcome (Grown Joined) → Grown Joined
    joined_in (answered done) = done
    joined_in (refused r) = record { table = []; arcs = [] }

pub buffer : List ℕ
buffer = (join_left (room 9 14) (answered joined_net)).arcs

demand : Demand3 lines counts arcs
unfolding everything example lines net counts arcs
demand = demand3 lent input lines (space_for 3 4 11) 4 refl 4 net refl

final : T (final_last (arcs_in counts.arcs arcs))
unfolding everything example lines net counts arcs
final = finished-final lent input lines (space_for 3 4 11) 4 refl 4 net refl

paths : JoinedPaths lines (words_in 2 word_table) (length joined_net.arcs) buffer
unfolding everything example lines net counts arcs word_lines word_table room two joined_net buffer
paths = joined-paths counts arcs 2 word_table (room 9 14) lines joined_net demand final refl

-- a path that carries these models and these words
abbrev SomePath : (M W : List ℕ) → Type 0
SomePath M W = (places : List ℕ) × Carries (arcs_in (length joined_net.arcs) buffer) places M W

-- the models 10, 20, 10 are word 1, and not word 2
pub one_word : SomePath (10 ∷ 20 ∷ 10 ∷ []) (1 ∷ [])
unfolding everything example lines word_lines word_table
one_word =
    (paths.exactly (10 ∷ 20 ∷ 10 ∷ []) (1 ∷ [])).1 (tt, (spoken-silent (words_in 2 word_table) (1 ∷ []), refl))

longer : ◌≡◌ {A = Option (List ℕ)} (some (10 ∷ 20 ∷ 21 ∷ 10 ∷ [])) (some (10 ∷ 20 ∷ 10 ∷ [])) → ⊥
longer e = let z : ◌≡◌ {A = ℕ} 21 10 = cc in omega arith

pub not-two : SomePath (10 ∷ 20 ∷ 10 ∷ []) (2 ∷ []) → ⊥
unfolding everything example lines word_lines word_table
not-two path = longer ((paths.exactly (10 ∷ 20 ∷ 10 ∷ []) (2 ∷ [])).0 path).1.1

-- 10, 20, 21, 10 are word 2 and are word 1 twice; 3 is no word
pub either : SomePath (10 ∷ 20 ∷ 21 ∷ 10 ∷ []) (2 ∷ []) × SomePath (10 ∷ 20 ∷ 21 ∷ 10 ∷ []) (1 ∷ 1 ∷ [])
unfolding everything example lines word_lines word_table
either =
    let said = words_in 2 word_table in (
      (paths.exactly (10 ∷ 20 ∷ 21 ∷ 10 ∷ []) (2 ∷ [])).1 (tt, (spoken-silent said (2 ∷ []), refl)),
      (paths.exactly (10 ∷ 20 ∷ 21 ∷ 10 ∷ []) (1 ∷ 1 ∷ [])).1 (tt, (spoken-silent said (1 ∷ 1 ∷ []), refl)),
    )

pub no_third : (M : List ℕ) → SomePath M (3 ∷ []) → ⊥
unfolding everything example lines word_lines word_table
no_third M path = ((paths.exactly M (3 ∷ [])).0 path).0

-- no word at all is silence and silence
pub no_word : SomePath (10 ∷ 10 ∷ []) []
unfolding everything example lines word_lines word_table
no_word = (paths.exactly (10 ∷ 10 ∷ []) []).1 (tt, (spoken-silent (words_in 2 word_table) [], refl))
