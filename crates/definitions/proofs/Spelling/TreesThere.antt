-- Laws about the trees that are there: those at the roots that R lines give. A word of 4096 names no tree and no
-- node, so leaving such words out changes neither what is named nor the trees.
use Rattle.std.specs.Prelude.{◌≡◌, refl, List, [], ◌∷◌, map, not, ℕ, ◌<◌, eqb}
use Rattle.std.proofs.Common.{ap, arith, ne_eqb, eqb-true}
use Rattle.definitions.specs.Lists.{select, occurrences}
use Rattle.definitions.specs.BookLines.{TreeNode, no_root}
use Rattle.definitions.specs.PlainForm.{Tree, tree_at, tree_for, trees_there}
use Rattle.definitions.proofs.Laws.Lists.Tests.{by-test}

-- the words that are roots
abbrev pub given : List ℕ → List ℕ
given roots = select (λ root. not (eqb root no_root)) roots

-- the trees there stand at them
pub there-given : (nodes : List TreeNode) (classes roots : List ℕ)
    → trees_there (map (tree_for nodes classes) roots) ≡ map (tree_at nodes classes) (given roots)
unfolding trees_there select
there-given nodes classes [] = refl
there-given nodes classes (root ∷ roots) =
    let rest = there-given nodes classes roots in
    by-test (eqb root no_root) (λ e. rw e rest)
    (λ e. rw e (ap (λ (l : List Tree). tree_at nodes classes root ∷ l) rest))

-- they name the nodes that all words name
pub given-names : (x : ℕ) (roots : List ℕ) → x < no_root → occurrences x (given roots) ≡ occurrences x roots
unfolding occurrences select
given-names x [] h = refl
given-names x (root ∷ roots) h =
    let rest = given-names x roots h in
    by-test (eqb root no_root)
    (λ e. rw (e, ne_eqb x root (λ q. omega (arith, q, h, eqb-true root no_root e))) rest)
    (λ e. rw (e, rest) refl)
