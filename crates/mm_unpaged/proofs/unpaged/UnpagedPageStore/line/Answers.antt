use Rattle.std.proofs.Common.{ℕ, None, ap, sym, ◌∙◌}
use Rattle.mm_store.specs.{StoreOf, begun, pid_after}
use Rattle.mm_unpaged.specs.{store_in}
use Rattle.mm_unpaged.proofs.{pid_stays}
use Rattle.mm_unpaged.proofs.unpaged.UnpagedPageStore.line.Goals as goal

pub returns-in-Process-clause-store : goal.returns-in-Process-clause-store
returns-in-Process-clause-store g c =
    let s = store_in c.args.self.now in
    ap (λ (t : StoreOf). record t { last_pid = c.in-Process.pid.0 }) c.begin.ensures.store
    ∙ ap (λ (n : ℕ). record s { line = c.args.line; kind = c.args.kind; last_pid = n; ready = None; report = begun s.report }) (sym (ap (pid_after s.last_pid) c.in-Process.is))

pub returns-in_default-clause-store : goal.returns-in_default-clause-store
returns-in_default-clause-store g c =
    let s = store_in c.args.self.now in
    c.begin.ensures.store
    ∙ ap (λ (n : ℕ). record s { line = c.args.line; kind = c.args.kind; last_pid = n; ready = None; report = begun s.report }) (pid_stays s.last_pid c.args.kind c.in_default.not-Process)
