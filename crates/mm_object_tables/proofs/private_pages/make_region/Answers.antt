use Rattle.std.proofs.Common.{◌+◌, ◌∙◌, refl, ap, arith}
use Rattle.mm_store.specs.{MakesFrom, StoreOf}
use Rattle.mm_store.proofs.{idle_before}
use Rattle.mm_types.proofs.{on_err}
use Rattle.mm_object_tables.specs.{new_pages}
use Rattle.mm_object_tables.proofs.{idle, places_stored, region_filled}
use Rattle.mm_object_tables.proofs.PageByPage.{can_fill}
use Rattle.mm_object_tables.proofs.private_pages.make_region.Goals as goal

pub returns-in_err-region-clause-makes : goal.returns-in_err-region-clause-makes
returns-in_err-region-clause-makes g c =
    let none = idle g.G.PageStore c.args.g.now in
    record { later = omega arith; passes = λ from to stands. none (MakesFrom from to); idle = on_err c.from_residual.result none; loans = refl }

pub fill_region-requires-clause-can : goal.fill_region-requires-clause-can
fill_region-requires-clause-can g c commits =
    can_fill c.args.pid c.args.range c.args.kind c.args.total c.args.space.now.regions c.grow_for_region.new.space.regions
    (g.G.PageStore.contents c.args.g.now) (g.G.PageStore.contents c.grow_for_region.new.g) (g.G.PageStore.store c.args.g.now) (g.G.PageStore.store c.grow_for_region.new.g)
    c.requires.can (places_stored c.in-Ok.ensures.binds.bound c.grow_for_region.ensures.idles.contents) (ap (λ (x : StoreOf). x.paging_keys) c.in-Ok.ensures.binds.bound.store) c.in-Ok.ensures.binds.room
    c.grow_for_region.ensures.regions commits

pub returns-in-Ok-clause-adds : goal.returns-in-Ok-clause-adds
returns-in-Ok-clause-adds g c = record {
  stored = region_filled (places_stored c.in-Ok.ensures.binds.bound c.grow_for_region.ensures.idles.contents) c.fill_region.ensures.stored;
  counted = c.fill_region.ensures.counted ∙ ap (λ (x : StoreOf). x.paging_keys + new_pages c.args.kind c.args.range) c.in-Ok.ensures.binds.bound.store;
  room = omega (arith, c.in-Ok.ensures.binds.room, c.fill_region.ensures.room);
}

pub returns-in-Ok-clause-makes : goal.returns-in-Ok-clause-makes
returns-in-Ok-clause-makes g c = record {
  later = omega (arith, c.in-Ok.ensures.binds.bound.later, c.fill_region.ensures.room);
  passes = λ from to stands.
      idle_before g.G.PageStore.unpaged (MakesFrom from to) (g.G.PageStore.store c.args.g.now) (g.G.PageStore.store c.grow_for_region.new.g) (g.G.PageStore.store c.fill_region.new.g)
      (g.G.PageStore.behind c.args.g.now) (g.G.PageStore.behind c.grow_for_region.new.g) (g.G.PageStore.behind c.fill_region.new.g) c.grow_for_region.ensures.idles.passes (c.fill_region.ensures.passes from to stands);
  idle = tt;
  loans = c.fill_region.ensures.loans ∙ c.grow_for_region.ensures.idles.loans;
}

pub returns-in-Err-clause-makes : goal.returns-in-Err-clause-makes
returns-in-Err-clause-makes g c = record {
  later = c.in-Err.ensures.err.later;
  passes = λ from to stands. c.grow_for_region.ensures.idles.passes (MakesFrom from to);
  idle = c.grow_for_region.ensures.idles.passes;
  loans = c.grow_for_region.ensures.idles.loans;
}
