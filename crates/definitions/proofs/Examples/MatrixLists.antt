-- Document 02, P6, on small lists: what the sides of a question with several parts, the meet and the shift give. A
-- list is shown as its length and the columns of its matrices, one after the other.
use Rattle.std.specs.Prelude.{refl, List, [], ◌∷◌, Bool, ℕ, length}
use Rattle.definitions.specs.Lists.{if◌then◌else◌, concat_map, cleared}
use Rattle.definitions.specs.BookLines.{Part, asks}
use Rattle.definitions.specs.Matrices.{Matrix}
use Rattle.definitions.specs.MatrixLists.{meet_lists, shift_list, root_list, start_list, list_ends, yes_list}
use Rattle.definitions.specs.MatrixLists.{no_list, is_short, list_record}
use Rattle.definitions.proofs.Examples.Everything.{everything}
use Rattle.definitions.proofs.Examples.Example.{Result, gives, Case, ◌is◌, Holds, example}

listed : List Matrix → Result
listed l = gives (length l ∷ concat_map (λ m. m) l)

tested : Bool → Result
tested b = gives ((if b then 1 else 0) ∷ [])

-- Document 01's book, with `C 1 1 2` after its N line: phone 2 of 2, class 1 has phone 1, and the question asks for it
-- to the left and to the right.
classes : List ℕ
classes = 1 ∷ []

parts : List Part
parts = asks 1 0 ∷ asks 1 2 ∷ []

root : List Matrix
root = root_list 1 2 2

no : List Matrix
no = no_list classes parts root

pub sides : List Case
sides =
    listed root is gives (1 ∷ 3 ∷ 2 ∷ 3 ∷ [])
    -- "the answer is yes when all parts are yes"
    ∷ listed (yes_list classes parts root) is gives (1 ∷ 1 ∷ 2 ∷ 1 ∷ [])
    -- "one for each part that fails", in order
    ∷ listed no is gives (2 ∷ 2 ∷ 2 ∷ 3 ∷ 3 ∷ 2 ∷ 2 ∷ [])
    -- "without repeats"
    ∷ listed (no_list classes (asks 1 0 ∷ asks 1 0 ∷ []) root) is gives (1 ∷ 2 ∷ 2 ∷ 3 ∷ [])
    -- no phone but 2 may stand in the centre: the part that asks for it cannot fail
    ∷ listed (no_list (2 ∷ []) (asks 1 1 ∷ []) root) is gives (0 ∷ [])
    -- "A list meets another matrix by matrix"
    ∷ listed (meet_lists no no) is gives (3 ∷ 2 ∷ 2 ∷ 2 ∷ 2 ∷ 2 ∷ 3 ∷ 3 ∷ 2 ∷ 2 ∷ [])
    -- the shift of each, not in order
    ∷ listed (shift_list 2 no) is gives (2 ∷ 2 ∷ 3 ∷ 3 ∷ 2 ∷ 2 ∷ 3 ∷ [])
    -- only the second may stand after silence; with the first a path may end
    ∷ listed (start_list 1 no) is gives (1 ∷ 1 ∷ 2 ∷ 2 ∷ [])
    ∷ tested (list_ends 1 no) is gives (1 ∷ [])
    ∷ tested (list_ends 1 (start_list 1 no)) is gives (0 ∷ [])
    -- "list length and eight matrices"
    ∷ gives (list_record 1 no) is gives (2 ∷ 2 ∷ 2 ∷ 3 ∷ 0 ∷ 0 ∷ 0 ∷ 0 ∷ 3 ∷ 2 ∷ 2 ∷ cleared 46)
    ∷ []

-- Six phones, and classes of one phone each, but the last, which has 1, 2 and 3. Three parts fail in three ways, and of
-- each again in three: nine matrices, which are too many, whatever the next question leaves of them.
singles : List ℕ
singles = 1 ∷ 2 ∷ 4 ∷ 8 ∷ 16 ∷ 32 ∷ 7 ∷ []

three : List Matrix
three = no_list singles (asks 1 0 ∷ asks 2 0 ∷ asks 3 0 ∷ []) (root_list 1 6 1)

nine : List Matrix
nine = no_list singles (asks 4 0 ∷ asks 5 0 ∷ asks 6 0 ∷ []) three

pub many : List Case
many =
    listed three is gives (3 ∷ 59 ∷ 1 ∷ 63 ∷ 61 ∷ 1 ∷ 63 ∷ 62 ∷ 1 ∷ 63 ∷ [])
    ∷ gives (length nine ∷ []) is gives (9 ∷ [])
    ∷ tested (is_short three) is gives (1 ∷ [])
    ∷ tested (is_short nine) is gives (0 ∷ [])
    ∷ listed (yes_list singles (asks 7 0 ∷ []) nine)
    is gives (3 ∷ 3 ∷ 1 ∷ 63 ∷ 5 ∷ 1 ∷ 63 ∷ 6 ∷ 1 ∷ 63 ∷ [])
    ∷ []

pub sides-hold : Holds sides
unfolding everything example listed tested classes parts root no sides
sides-hold = (refl, (refl, (refl, (refl, (refl, (refl, (refl, (refl, (refl, (refl, (refl, tt)))))))))))

pub many-hold : Holds many
unfolding everything example listed tested singles three nine many
many-hold = (refl, (refl, (refl, (refl, (refl, tt)))))
