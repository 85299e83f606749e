-- Document 01, "Transcription", with the trees in force of document 02, P2: what the trees give to a sequence
-- of phones, read from the book's lines alone. Nothing here knows of tables or matrices: it is the meaning
-- that demand 3 holds the network to.
use Rattle.std.specs.Prelude.{if◌then◌else◌, ◌≡◌, List, [], ◌∷◌, ◌++◌, map, Bool, ◌&&◌, ℕ, zero, suc, ◌+◌, ◌-◌, ◌*◌, T, eqb, length, take, drop, replicate}
use Rattle.std.proofs.Math.Option.{Option, none, some}
use Rattle.definitions.specs.Lists.{◌!◌, every, at_least_one, first_where, map_option, concat_map}
use Rattle.definitions.specs.Lists.{up_from}
use Rattle.definitions.specs.BookLines.{BookLine, header_of, is_phone, members_of, TreeNode, question, leaf}
use Rattle.definitions.specs.BookLines.{node_lines_of, Asked, Reached, at_leaf, past_question, roots_of, root_for}
use Rattle.definitions.specs.BookLines.{boundaries_of, plain_for}

-- "The context of place i in a sequence S has 2n+1 phones: in column c the phone at place i+c−n, or 1 where
-- that lies beyond either end." With n phones before and after S, place i+c−n of S is place i+c. So the
-- contexts are windows of 2n+1 phones, each one place further on.
unfoldable pub windows : (width count : ℕ) → List ℕ → List (List ℕ)
windows width zero phones = []
windows width (suc count) phones = take width phones ∷ windows width count (drop 1 phones)

unfoldable pub around : (left S right : List ℕ) → List ℕ
around left S right = left ++ S ++ right

unfoldable pub contexts_within : (half : ℕ) → (left S right : List ℕ) → List (List ℕ)
contexts_within half left S right = windows (2 * half + 1) (length S) (around left S right)

-- "a place beyond either end counts as silence"
abbrev pub silences : (half : ℕ) → List ℕ
silences half = replicate half 1

abbrev pub with_silence : (half : ℕ) → (S : List ℕ) → List ℕ
with_silence half S = around (silences half) S (silences half)

abbrev pub contexts : (half : ℕ) → (S : List ℕ) → List (List ℕ)
contexts half S = contexts_within half (silences half) S (silences half)

-- "the node in the R line of the phone .. and that state"
unfoldable pub root_line : List BookLine → (phone state : ℕ) → Option ℕ
root_line lines phone state = root_for (roots_of lines) phone state

-- the phone whose trees a phone has: "The boundary phone then takes the plain phone's trees"
unfoldable pub trees_phone : List BookLine → (phone : ℕ) → ℕ
trees_phone lines phone = elim (plain_for (boundaries_of lines) phone) [ none ↦ phone | some plain ↦ plain ]

-- what the N or L line of a node says
unfoldable pub node_line : List BookLine → (node : ℕ) → Option TreeNode
node_line lines node = map_option (λ l. l.node) (first_where (λ l. eqb l.number node) (node_lines_of lines))

-- whether a Q line puts a phone into a class
unfoldable pub put_in_class : List BookLine → (class phone : ℕ) → Bool
put_in_class lines class phone =
    at_least_one (λ m. eqb m.class class && eqb m.phone phone) (members_of lines)

-- whether "a Q line puts the context's phone at its position into its class"
unfoldable pub answers_by_lines : List BookLine → (context : List ℕ) → Asked → Bool
answers_by_lines lines context asked = put_in_class lines asked.class (context ! asked.position)

-- "At an N line go to its yes node if a Q line puts the context's phone at its position into its class,
-- else to its no node. At an L line its model is given." The walk meets greater nodes only, so as many
-- steps as lines are enough. Each N line is a question met on the way.
unfoldable pub walk_by_lines : (steps : ℕ) → List BookLine → (context : List ℕ) → (node : ℕ) → Option Reached
walk_by_lines zero lines context node = none
walk_by_lines (suc steps) lines context node =
    elim (node_line lines node) [
      | none ↦ none
      | some (question asked yes_node no_node) ↦
          map_option past_question
          (walk_by_lines steps lines context (if answers_by_lines lines context asked then yes_node else no_node))
      | some (leaf model) ↦ some (at_leaf node model)
    ]

-- "For each state, start at the node in the R line of the phone at i and that state", of the phone whose
-- trees it takes, "with itself in the centre column"
unfoldable pub reached_by_lines : List BookLine → (context : List ℕ) → (state : ℕ) → Option Reached
reached_by_lines lines context state =
    elim (root_line lines (trees_phone lines (context ! (header_of lines).half)) state) [
      | none ↦ none
      | some root ↦ walk_by_lines (length lines) lines context root
    ]

-- the model that is given
unfoldable pub model_given : List BookLine → (context : List ℕ) → (state : ℕ) → Option ℕ
model_given lines context state = map_option (λ r. r.model) (reached_by_lines lines context state)

-- all answers in order, or none if one of them is none
unfoldable pub together : List (Option ℕ) → Option (List ℕ)
together [] = some []
together (none ∷ answers) = none
together (some a ∷ answers) = elim (together answers) [ none ↦ none | some rest ↦ some (a ∷ rest) ]

-- "phones in order and within each phone the states ascending"
unfoldable pub models_along : List BookLine → (contexts : List (List ℕ)) → Option (List ℕ)
models_along lines contexts =
    let states : List ℕ = up_from 1 (header_of lines).states in
    together (concat_map (λ context. map (λ state. model_given lines context state) states) contexts)

-- "The trees give S these models .. To the empty sequence they give the empty M, to one with a phone out of
-- range no M."
unfoldable pub trees_give : List BookLine → (S : List ℕ) → Option (List ℕ)
trees_give lines S =
    if every (is_phone (header_of lines).phones) S
    then models_along lines (contexts (header_of lines).half S)
    else none

-- "S begins and ends with silence" (the empty sequence has no phone there)
unfoldable pub silent_ends : (S : List ℕ) → Bool
silent_ends S = eqb (S ! 0) 1 && eqb (S ! (length S - 1)) 1

-- what an accepting path may carry: "S begins and ends with silence and the trees give M, in order, to the
-- sounds of S in their full context, with silence beyond both ends"
abbrev pub Given : List BookLine → (M S : List ℕ) → Type 0
Given lines M S = T (silent_ends S) × (trees_give lines S ≡ some M)
