-- Document 02, P5: how many questions the trees put to a sequence of phones, read from the book's lines alone, as what
-- they give is read in TreesGive.antt. A question is an N line that a walk meets.
use Rattle.std.specs.Prelude.{if◌then◌else◌, List, map, ℕ}
use Rattle.std.proofs.Math.Option.{Option, none}
use Rattle.definitions.specs.Lists.{every, map_option, concat_map, up_from, sum_of}
use Rattle.definitions.specs.BookLines.{BookLine, header_of, is_phone}
use Rattle.definitions.specs.TreesGive.{contexts, reached_by_lines, together}

-- "the number of questions met on the way"
unfoldable pub questions_met : List BookLine → (context : List ℕ) → (state : ℕ) → Option ℕ
questions_met lines context state = map_option (λ r. r.questions) (reached_by_lines lines context state)

-- "their sum over all phones and states"
unfoldable pub questions_put : List BookLine → (S : List ℕ) → Option ℕ
questions_put lines S =
    let states : List ℕ = up_from 1 (header_of lines).states in
    if every (is_phone (header_of lines).phones) S
    then map_option (sum_of (λ questions. questions))
    (together (concat_map (λ context. map (λ state. questions_met lines context state) states)
    (contexts (header_of lines).half S)))
    else none
