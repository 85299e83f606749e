-- A law about words put into a table: the first words of a table are filled with one.
use Rattle.std.specs.Prelude.{◌≡◌, List, ◌++◌, ℕ, ◌≤◌, length, take, drop, replicate}
use Rattle.std.proofs.Common.{zero-add}
use Rattle.std.proofs.lemmas.List.{length-replicate}
use Rattle.std.proofs.Math.Seq.{length-take-le}
use Rattle.lines.specs.Putting.{put_at}

-- the first words, lent and filled
pub first-filled : (words part : List ℕ) (count word : ℕ) → count ≤ length words
    → part ≡ replicate (length (take count words)) word
    → part ++ drop count words ≡ put_at 0 (replicate count word) words
unfolding put_at
first-filled words part count word h e =
    let size : length (take count words) ≡ count = length-take-le count words h in
    rw (e, size, length-replicate count word, zero-add)
