use Rattle.std.proofs.Common.{refl, ◌∙◌}
use Rattle.mm_dispatch.proofs.{forgot-none, forgot-more, idles-none, idles-more}
use Rattle.mm_dispatch.proofs.forgetting.forget_waits.Goals as goal

pub loop-tid-init : goal.loop-tid-init
loop-tid-init g c = record { forgot = forgot-none c.args.t.now c.args.pid.0 (g.G.PageStore.store c.args.g.now); contents = refl; passes = λ paging. idles-none c.args.t.now c.args.pid.0 (g.G.PageStore.behind c.args.g.now); loans = refl }

pub loop-tid-preserved : goal.loop-tid-preserved
loop-tid-preserved g c =
    let h = c.loop-tid.invariant in
    let e = c.forget_wait.ensures in
    record {
      forgot = forgot-more c.args.t.now c.args.pid.0 (g.G.PageStore.store c.args.g.now) c.loop-tid.tid (g.G.PageStore.store c.loop-tid.g) (g.G.PageStore.store c.forget_wait.new.g) h.forgot e.rest e.waits;
      contents = e.contents ∙ h.contents;
      passes = λ paging. idles-more c.args.t.now c.args.pid.0 (g.G.PageStore.behind c.args.g.now) c.loop-tid.tid (g.G.PageStore.behind c.loop-tid.g) (g.G.PageStore.behind c.forget_wait.new.g) (h.passes paging) (e.passes paging);
      loans = e.loans ∙ h.loans;
    }
