-- Demand 2 of the two entries: what `write` wrote, `read` reads as the same network; what `read` accepted,
-- `write` writes as the same text. The premises are what the contracts of the two entries ensure of their
-- answers and buffers.
use Rattle.std.specs.Prelude.{◌≡◌, List, ℕ, ◌≤◌, length, take, Result, Ok}
use Rattle.std.proofs.Math.Path.{sym}
use Rattle.std.proofs.Common.{◌∙◌}
use Rattle.definitions.specs.declared.Counts.{Counts}
use Rattle.definitions.specs.declared.Refusal.{Refusal}
use Rattle.definitions.specs.Faults.{answered, answer_left}
use Rattle.definitions.specs.Lists.{padded}
use Rattle.definitions.specs.NetworkText.{counts_of, read_network, arcs_left, write_network}
use Rattle.definitions.specs.Said.{result_of}
use Rattle.definitions.proofs.Laws.Results.{answered-ok}
use Rattle.definitions.proofs.Laws.Networks.RoundTrips.{written-read-same, read-written}
use Rattle.writing.specs.Laws.Answering.{bytes-written}

-- ---- a network written and read again

-- `write` was lent counts, arc words and a text buffer, and answered so many bytes; `read` was lent these
-- bytes, and arc words of the same length
module _ (counts : Counts) (words text text' : List ℕ) (wrote : Result ℕ Refusal) (count : ℕ)
    (write-says : wrote ≡ result_of length (write_network counts words (length text)))
    (write-leaves : text' ≡ answer_left (length text) (write_network counts words (length text)))
    (bytes : wrote ≡ Ok count)
    (arcs arcs' : List ℕ) (read : Result Counts Refusal) (same_length : length arcs ≡ length words)
    (read-says : read ≡ result_of counts_of (read_network (length arcs) (take count text')))
    (read-leaves : arcs' ≡ arcs_left (length arcs) (read_network (length arcs) (take count text')))
  where
    -- then `read` answers the same counts and leaves the same words
    pub write-then-read : (read ≡ Ok counts) × (arcs' ≡ words)
    unfolding result_of
    write-then-read =
        let own = bytes-written _ (length text) wrote count text' (write-says, write-leaves) bytes in
        let (lines, accepted, stated, left) =
        written-read-same counts words (length text) own.text own.answers in (
          read-says ∙ rw (same_length, own.bytes, accepted, result_of, stated),
          read-leaves ∙ rw (same_length, own.bytes) left,
        )

-- ---- a text read and written again

-- `read` was lent a text and arc words, and answered counts; `write` was lent these counts, the words that
-- `read` left, and a buffer with room for the text
module _ (text arcs arcs' : List ℕ) (read : Result Counts Refusal) (counts : Counts)
    (read-says : read ≡ result_of counts_of (read_network (length arcs) text))
    (read-leaves : arcs' ≡ arcs_left (length arcs) (read_network (length arcs) text))
    (accepted : read ≡ Ok counts)
    (buffer buffer' : List ℕ) (wrote : Result ℕ Refusal) (room : length text ≤ length buffer)
    (write-says : wrote ≡ result_of length (write_network counts arcs' (length buffer)))
    (write-leaves : buffer' ≡ answer_left (length buffer) (write_network counts arcs' (length buffer)))
  where
    -- then `write` answers the text's length, and the text stands in the buffer, 0 after it
    pub read-then-write : (wrote ≡ Ok (length text)) × (buffer' ≡ padded (length buffer) text)
    unfolding result_of answer_left
    read-then-write =
        let found =
        answered-ok counts_of (read_network (length arcs) text) counts (sym read-says ∙ accepted) in
        let made : write_network counts arcs' (length buffer) ≡ answered text =
        read-written (length arcs) text counts arcs' (length buffer) (found.answer, found.was, found.said, sym read-leaves)
        room in
        (write-says ∙ rw (made, result_of), write-leaves ∙ rw (made, answer_left))
