use Rattle.mm_dispatch.proofs.{idles-one, idles-not}
use Rattle.mm_dispatch.proofs.forgetting.forget_wait.Goals as goal

pub returns-then-keeps_of-clause-passes : goal.returns-then-keeps_of-clause-passes
returns-then-keeps_of-clause-passes g c =
    idles-one g.G.PageStore.unpaged c.args.t.now c.args.pid.0 c.args.tid.0 (g.G.PageStore.store c.args.g.now) (g.G.PageStore.store c.forget.new.self) (g.G.PageStore.behind c.args.g.now) (g.G.PageStore.behind c.forget.new.self) c.keeps_of.result c.keeps_of.ensures c.if-keeps_of.true c.forget.ensures.passes

pub returns-else-keeps_of-clause-passes : goal.returns-else-keeps_of-clause-passes
returns-else-keeps_of-clause-passes g c =
    λ paging. idles-not c.args.t.now c.args.pid.0 c.args.tid.0 (g.G.PageStore.behind c.args.g.now) c.keeps_of.result c.keeps_of.ensures c.if-keeps_of.false
