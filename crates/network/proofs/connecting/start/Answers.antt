-- `connecting::start` meets its contract.
use Rattle.network.specs.Laws.Beginning.{holds-none, before-wide, started}
use Rattle.network.proofs.connecting.start.Goals as goal

pub follow-requires : goal.follow-requires
follow-requires c =
    let s = c.requires in
    record {
      searchable = s.searchable;
      underway = holds-none s.empty;
      shaped = before-wide s.searchable.connectable.usable c.all_phones.result c.around-before.ensures;
    }

pub returns : goal.returns
returns c =
    started c.requires.searchable.connectable.usable c.all_phones.result c.around-before.ensures
    c.all_phones.ensures c.args.search.rules.nodes.now c.follow.ensures
