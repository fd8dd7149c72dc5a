use Rattle.std.proofs.Common.{None, ◌∙◌, ap}
use Rattle.mm_store.specs.{StoreOf}
use Rattle.mm_dispatch.proofs.{keeps-forgot, keeps_kept, rest_forgot, idle_now}
use Rattle.mm_dispatch.proofs.thread_lines.end_access.Goals as goal

pub returns : goal.returns
returns g c =
    let mine = g.G.PageStore.contents c.args.g.now in
    let y = g.G.PageStore.store c.args.g.now in
    let new = g.G.PageStore.contents c.forget.new.self in
    let z = g.G.PageStore.store c.forget.new.self in
    let rest = rest_forgot y z _ c.forget.ensures.store in
    let keeps = keeps-forgot c.args.t.now mine new y z c.requires.keeps c.forget.ensures.contents rest in
    record {
      keeps = keeps_kept c.args.t.now c.end_kept.new.self new z c.args.tid.0 None keeps c.end_kept.ensures.ended (c.end_kept.ensures.fits new z keeps.fits);
      ended = c.end_kept.ensures.ended;
      idle = ap (λ (s : StoreOf). s.report.wait c.args.tid.0) c.forget.ensures.store ∙ idle_now y.report.wait c.args.tid.0;
      rest = rest;
      contents = c.forget.ensures.contents;
      passes = c.forget.ensures.passes;
      loans = c.forget.ensures.loans;
    }
