use Rattle.std.proofs.Common.{◌∙◌, sym}
use Rattle.mm_object_tables.proofs.{shares_new, shares_old}
use Rattle.mm_object_tables.proofs.views.share_page.Goals as goal

pub returns-then-not-is_committed-clause-shares : goal.returns-then-not-is_committed-clause-shares
returns-then-not-is_committed-clause-shares g c =
    shares_new c.args.area c.args.index c.args.pages.now (g.G.PageStore.contents c.args.g.now) (g.G.PageStore.store c.args.g.now) c.requires.can (g.G.PageStore.contents c.add.new.self) (g.G.PageStore.store c.add.new.self)
    (sym c.is_committed.ensures ∙ c.if-not-is_committed.true) c.add.ensures.contents c.add.ensures.store

pub returns-else-not-is_committed-clause-shares : goal.returns-else-not-is_committed-clause-shares
returns-else-not-is_committed-clause-shares g c =
    shares_old c.args.area c.args.index c.args.pages.now (g.G.PageStore.contents c.args.g.now) (g.G.PageStore.store c.args.g.now) c.requires.can
    (sym c.is_committed.ensures ∙ c.if-not-is_committed.false)
