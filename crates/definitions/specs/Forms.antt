-- Document 01, "Tree book" and "Connecting", and document 02, P2 and P4: the constant table of each letter, which
-- its lines are read by.
use Rattle.std.specs.Prelude.{List, [], ◌∷◌, ℕ}
use Prim.Native.Char.{Char, code}

-- "used fields, lowest and highest fixed values"
pub record Range : Type 0 where
  pub lowest : ℕ
  pub highest : ℕ

infix 68 ◌‥◌
abbrev pub ◌‥◌ : ℕ → ℕ → Range
lowest ‥ highest = record { lowest = lowest; highest = highest }

pub record Form : Type 0 where
  pub letter : ℕ
  pub fields : List Range

abbrev pub form : (letter : Char) → (fields : List Range) → Form
form letter fields = record { letter = code letter; fields = fields }

-- The letters of a tree book. Where no range is stated, "Phones, classes and states count from 1, nodes
-- from 0", and the highest is what the largest header allows.
-- "H | half-width n 0..3, states per phone k 1..3, phones 1..64, classes 0..255, nodes 1..4096"
abbrev pub form_h : Form
form_h = form "H" (0 ‥ 3 ∷ 1 ‥ 3 ∷ 1 ‥ 64 ∷ 0 ‥ 255 ∷ 1 ‥ 4096 ∷ [])

-- "Q | class, phone"
abbrev pub form_q : Form
form_q = form "Q" (1 ‥ 255 ∷ 1 ‥ 64 ∷ [])

-- "N | node, class, position 0..2n, yes node, no node"
abbrev pub form_n : Form
form_n = form "N" (0 ‥ 4095 ∷ 1 ‥ 255 ∷ 0 ‥ 6 ∷ 0 ‥ 4095 ∷ 0 ‥ 4095 ∷ [])

-- "L | node, model 1..65535"
abbrev pub form_l : Form
form_l = form "L" (0 ‥ 4095 ∷ 1 ‥ 65535 ∷ [])

-- Document 02: "A `B` line names a boundary phone (2 or above) and its plain phone"
abbrev pub form_b : Form
form_b = form "B" (2 ‥ 64 ∷ 1 ‥ 64 ∷ [])

-- "R | phone, state, root node"
abbrev pub form_r : Form
form_r = form "R" (1 ‥ 64 ∷ 1 ‥ 3 ∷ 0 ‥ 4095 ∷ [])

-- The letters of network text.
-- "`W` with k, metastates, arcs": "k 1..3, metastates 1..65535, arcs 1..999999"
abbrev pub form_w : Form
form_w = form "W" (1 ‥ 3 ∷ 1 ‥ 65535 ∷ 1 ‥ 999999 ∷ [])

-- "one `A` per arc with from, to, model, phone": "states below 2+k×metastates, models to 65535, phones to 64"
abbrev pub form_a : Form
form_a = form "A" (0 ‥ 196606 ∷ 0 ‥ 196606 ∷ 0 ‥ 65535 ∷ 0 ‥ 64 ∷ [])

-- The letter of a word book, by document 02: "`V` lines: word, place, phone. Words 1..9999 and places 1..64 ..;
-- phones run to 64."
abbrev pub form_v : Form
form_v = form "V" (1 ‥ 9999 ∷ 1 ‥ 64 ∷ 1 ‥ 64 ∷ [])

-- the letters that a tree book has, those that network text has, and the one that a word book has
abbrev pub book_forms : List Form
book_forms = form_h ∷ form_q ∷ form_n ∷ form_l ∷ form_b ∷ form_r ∷ []

abbrev pub network_forms : List Form
network_forms = form_w ∷ form_a ∷ []

abbrev pub word_forms : List Form
word_forms = form_v ∷ []

-- some of these numbers by name: how many nodes a book has at most, the greatest model, how many words a word book has
-- at most, the greatest phone, how many phones a word has at most, and the greatest number that a field of six digits
-- holds
abbrev pub most_nodes : ℕ
most_nodes = 4096

abbrev pub most_model : ℕ
most_model = 65535

abbrev pub most_words : ℕ
most_words = 9999

abbrev pub most_phone : ℕ
most_phone = 64

abbrev pub most_places : ℕ
most_places = 64

abbrev pub most_number : ℕ
most_number = 999999
