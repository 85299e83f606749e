-- `structs::lookup_known` meets its contract: the records are tested last.
use Rattle.std.proofs.Common.{rules, [], sym, ◌∙◌}
use Rattle.trees.specs.Laws.Answering.{records-last, listed-counted}
use Rattle.trees.proofs.structs.lookup_known.Goals as goal

pub returns-then-list_known : goal.returns-then-list_known
returns-then-list_known c =
    let a = c.args in
    let listed = sym c.list_known.ensures ∙ c.if-list_known.true in
    let known = c.nodes_known.ensures a.nodes.now (record {
      counted = listed-counted a.header a.classes.now a.nodes.now a.root [] listed;
      own = λ node h r k. search rules;
    }) in
    known ∙ sym (records-last a.header a.classes.now a.nodes.now a.root [] ∙ rw listed)

pub returns-else-list_known : goal.returns-else-list_known
returns-else-list_known c =
    let a = c.args in
    let listed = sym c.list_known.ensures ∙ c.if-list_known.false in
    c.if-list_known.false ∙ sym (records-last a.header a.classes.now a.nodes.now a.root [] ∙ rw listed)
