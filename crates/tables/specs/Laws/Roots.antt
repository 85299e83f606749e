-- Laws about the root of a phone's tree for a state: where roots are listed for all phones and states, its
-- place in R order is one of theirs, and the word there is a root of the book and a node.
use Rattle.std.specs.Prelude.{◌≡◌, List, Bool, ℕ, suc, ◌+◌, ◌-◌, ◌*◌, ◌≤◌, ◌<◌, ltb, take}
use Rattle.std.proofs.Common.{sym, ap, ◌∙◌, suc-mul, mul-le-mul_right, arith, ltb→lt, get_or-take, length-take-le}
use Rattle.definitions.specs.declared.Header.{Header}
use Rattle.definitions.specs.Lists.{◌!◌}
use Rattle.definitions.specs.BookLines.{root_count}
use Rattle.definitions.proofs.Laws.Lists.Tests.{every-at}
use Rattle.tables.specs.Usable.{RootsListed}

pub tree-place : (header : Header) (phone state : ℕ) → 1 ≤ phone → phone ≤ header.phones → 1 ≤ state
    → state ≤ header.states → (phone - 1) * header.states + (state - 1) < root_count header
unfolding root_count
tree-place header phone state a b c d =
    let most = mul-le-mul_right header.states b in
    let last : phone * header.states ≡ (phone - 1) * header.states + header.states =
    ap (λ (n : ℕ). n * header.states) {x = phone} {y = suc (phone - 1)} (omega arith)
    ∙ suc-mul (phone - 1) header.states in
    omega arith

pub record TreeRoot (header : Header) (roots : List ℕ) (phone state root : ℕ) : Type 0 where
  pub own : root ≡ take (root_count header) roots ! ((phone - 1) * header.states + (state - 1))
  pub listed : root < header.nodes

pub root-fits : (header : Header) (roots : List ℕ) → RootsListed header roots
    → {phone state root : ℕ} → 1 ≤ phone → phone ≤ header.phones → 1 ≤ state → state ≤ header.states
    → root ≡ roots ! ((phone - 1) * header.states + (state - 1)) → TreeRoot header roots phone state root
root-fits header roots h {phone} {state} {root} a b c d e =
    let test : (ℕ → Bool) = λ root. ltb root header.nodes in
    let count : ℕ = root_count header in
    let place : ℕ = (phone - 1) * header.states + (state - 1) in
    let inside = tree-place header phone state a b c d in
    let own : root ≡ take count roots ! place = e ∙ sym (get_or-take count roots place 0 inside) in
    let below = every-at test (take count roots) 0 h.listed place
    (rw (length-take-le count roots h.enough) inside) in
    record { own = own; listed = rw own (ltb→lt _ _ below) }
