use Rattle.std.proofs.Common.{true, false, refl, ap, ◌∙◌}
use Rattle.mm_page_tables.specs.{at_of, bare, bound_of}
use Rattle.mm_page_tables.specs.declared.layout.Entry.TheVariants as entry
use Rattle.mm_page_tables.proofs.{bound_there, place_reads}
use Rattle.mm_page_tables.proofs.tables.Words.at.Goals as goal

pub index_of-at-requires : goal.index_of-at-requires
index_of-at-requires c = bound_there c.args.self.now.processes.items c.args.place c.requires

pub entry-requires : goal.entry-requires
entry-requires c =
    place_reads c.args.self.now.processes.items c.index_of-at.result c.index.result.now c.index.result.now c.index_of-at.ensures.within c.index.ensures c.args.place.pid c.index_of-at.ensures.next bound_of false true c.args.place.vpn.0 c.requires

pub returns : goal.returns
returns c =
    ap bare c.entry.ensures
    ∙ place_reads c.args.self.now.processes.items c.index_of-at.result c.index.result.now c.index.result.now c.index_of-at.ensures.within c.index.ensures c.args.place.pid c.index_of-at.ensures.next at_of entry.Empty _ c.args.place.vpn.0 refl
