-- A turn of `reading::read_full`: the buffer's first bytes are those that the input lost, and what it lost now.
use Rattle.std.proofs.Common.{◌≡◌, ℕ, List, ◌+◌, ◌-◌, ◌≤◌, ◌++◌, take, length, sym, ap, ◌∙◌, subst, rules}
use Rattle.std.proofs.Math.Seq.{take-append-add}
use Rattle.std.proofs.lemmas.List.{take-append-le, length-take-le}
use Rattle.std.proofs.KnownBytes.{Consumes-trans}
use Rattle.std.specs.Io.KnownBytes.{Consumes}
use Rattle.std.specs.declared.option.Option.{Option}
use borrow.Rule.Slice.PartMut.{put_mid, post_of}
use Rattle.showing.proofs.reading.read_full.Goals as goal

-- the first bytes of a list whose middle was put: those before it, and the first of it
front-put : (from count more : ℕ) (l part : List ℕ) → from ≤ length l → more ≤ length part
    → take (from + more) (put_mid from count l part) ≡ take from l ++ take more part
front-put from count more l part there within =
    let rest : List ℕ = post_of from count l in
    let parts = take-append-add (take from l) (part ++ rest) more in
    subst (λ (n : ℕ). take (n + more) (put_mid from count l part) ≡ take from l ++ take more part)
    (length-take-le from l there) (parts ∙ ap (λ (k : List ℕ). take from l ++ k) (take-append-le more part rest within))

pub loop-got-preserved : goal.loop-got-preserved
loop-got-preserved g c = record {
  within = search rules;
  bytes =
      let at = c.loop-got in
      let left : Option (List ℕ) = g.R.Read.remaining c.args.input.now in
      let then_left : Option (List ℕ) = g.R.Read.remaining at.input in
      let now_left : Option (List ℕ) = g.R.Read.remaining c.read.new.self in
      let count : ℕ = length at.buffer - at.got in
      let same = front-put at.got count c.in_ok-more.more at.buffer c.read.new.buf at.invariant.within
      c.in_ok-more.ensures.bound.0 in
      subst (λ (l : List ℕ). Consumes left now_left l) (sym same)
      (Consumes-trans left then_left now_left (take at.got at.buffer) (take c.in_ok-more.more c.read.new.buf)
      at.invariant.bytes c.in_ok-more.ensures.bytes.0);
}
