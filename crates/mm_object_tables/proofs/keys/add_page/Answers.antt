use Rattle.std.proofs.Common.{◌∙◌, sym, refl, arith}
use Rattle.mm_types.proofs.{none_of}
use Rattle.mm_store.specs.{MakesFrom}
use Rattle.mm_store.proofs.{turns_same}
use Rattle.mm_object_tables.specs.{one_page_range}
use Rattle.mm_object_tables.proofs.{adds_one, adds_none, own, holds}
use Rattle.mm_object_tables.proofs.keys.add_page.Goals as goal

pub add-requires-clause-dead : goal.add-requires-clause-dead
add-requires-clause-dead g c =
    let page = c.args.page in
    none_of (g.G.PageStore.contents c.args.g.now (own c.args.pid page)) (c.requires.can.live page (holds (one_page_range page) page (omega arith) (omega arith)) ∙ sym c.is_owned.ensures ∙ c.if-not-is_owned.true)

pub returns-then-not-is_owned : goal.returns-then-not-is_owned
returns-then-not-is_owned g c =
    let page = c.args.page in
    let free = c.requires.can.live page (holds (one_page_range page) page (omega arith) (omega arith)) ∙ sym c.is_owned.ensures ∙ c.if-not-is_owned.true in
    record {
      adds = adds_one c.args.pid page (g.G.PageStore.contents c.args.g.now) (g.G.PageStore.contents c.add.new.self) (g.G.PageStore.store c.args.g.now) (g.G.PageStore.store c.add.new.self) free c.add.ensures.contents c.add.ensures.store;
      passes = λ from to stands. c.add.ensures.passes from to stands.0 (omega (arith, stands.1));
      loans = c.add.ensures.loans;
    }

pub returns-else-not-is_owned : goal.returns-else-not-is_owned
returns-else-not-is_owned g c =
    let page = c.args.page in
    let held = holds (one_page_range page) page (omega arith) (omega arith) in
    let live = c.requires.can.live page held ∙ sym c.is_owned.ensures ∙ c.if-not-is_owned.false in
    record {
      adds = adds_none c.args.pid page (g.G.PageStore.contents c.args.g.now) (g.G.PageStore.store c.args.g.now) live (c.requires.can.paging page held ∙ live);
      passes = λ from to stands. turns_same g.G.PageStore.unpaged (MakesFrom from to) (g.G.PageStore.store c.args.g.now) (g.G.PageStore.behind c.args.g.now);
      loans = refl;
    }
