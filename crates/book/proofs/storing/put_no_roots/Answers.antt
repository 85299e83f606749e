-- `storing::put_no_roots` meets its contract: the first words of the table are filled.
use Rattle.std.proofs.Common.{◌≡◌, ap, ap₂, ◌∙◌, sym, rules, List, ℕ, ◌*◌, length, take, replicate}
use Rattle.std.proofs.Math.Seq.{length-take-le}
use Rattle.definitions.specs.BookLines.{root_count, no_root}
use Rattle.lines.specs.Putting.{put_at}
use Rattle.book.specs.Laws.Putting.{first-filled}
use Rattle.book.proofs.storing.put_no_roots.Goals as goal
use Rattle.book.proofs.storing.put_no_roots.Goals.{After-wide-2}

-- the words to fill are the header's roots
count : (c : goal.After-wide-2) → c.wide.result * c.wide-2.result ≡ root_count c.args.header
unfolding root_count
count c = ap₂ ◌*◌ c.wide.ensures c.wide-2.ensures

pub slice_bounds-fill-end : goal.slice_bounds-fill-end
slice_bounds-fill-end c = rw (count c) c.requires

pub slice_bounds-fill-end-2 : goal.slice_bounds-fill-end-2
slice_bounds-fill-end-2 c = sym (length-take-le _ c.args.roots.now (rw (count (goal.at.slice_bounds-fill-end-2 c).After-wide-2) c.requires))

pub returns : goal.returns
returns c =
    let same = count (goal.at.returns c).After-wide-2 in
    let table : List ℕ = c.args.roots.now in
    let end : ℕ = c.wide.result * c.wide-2.result in
    let filled : c.fill.new.self ≡ replicate (length (take end table)) no_root = search rules in
    first-filled table _ end no_root (rw same c.requires) filled
    ∙ ap (λ (n : ℕ). put_at 0 (replicate n no_root) table) same
