use Rattle.mm_object_tables.proofs.{shared_dead, emptied}
use Rattle.mm_store.specs.Housekeeping.{Ends}
use Rattle.std.proofs.Common.{arith}
use Rattle.mm_store.proofs.{ends_then}
use Rattle.mm_object_tables.proofs.keys.empty_area.Goals as goal

pub close_area-requires-clause-dead : goal.close_area-requires-clause-dead
close_area-requires-clause-dead g c index =
    shared_dead c.args.area c.args.pages.now c.requires.can c.remove_shared.ensures.gone index

pub returns-clause-emptied : goal.returns-clause-emptied
returns-clause-emptied g c =
    emptied c.args.area c.args.pages.now c.requires.can c.remove_shared.ensures.gone c.close_area.ensures.contents c.close_area.ensures.store

pub returns-clause-passes : goal.returns-clause-passes
returns-clause-passes g c held from to low high =
    ends_then g.G.PageStore.unpaged held from to to (g.G.PageStore.store c.args.g.now) (g.G.PageStore.store c.remove_shared.new.g) (g.G.PageStore.store c.close_area.new.self) (g.G.PageStore.behind c.args.g.now) (g.G.PageStore.behind c.remove_shared.new.g) (g.G.PageStore.behind c.close_area.new.self)
    (omega (arith, low, high)) (omega arith) (c.remove_shared.ensures.passes held from to low high) (c.close_area.ensures.passes (Ends held to to))
