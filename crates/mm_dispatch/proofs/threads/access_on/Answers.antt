use Rattle.std.proofs.Common.{refl, sym, subst}
use Rattle.mm_types.specs.{AccessSpec}
use Rattle.mm_types.specs.declared.protections.Access.TheVariants as access_kind
use Rattle.mm_world.specs.{ReadOf, WriteOf, address_in, attempt_in}
use Rattle.mm_dispatch.specs.{TurnsAccess}
use Rattle.mm_dispatch.specs.declared.threads.Threaded.TheVariants as threaded
use Rattle.mm_dispatch.proofs.{turns-made}
use Rattle.mm_dispatch.proofs.threads.access_on.Goals as goal

pub returns-in-Err : goal.returns-in-Err
returns-in-Err g c =
    subst (λ (w : AccessSpec). TurnsAccess g.G.PageStore (attempt_in w) c.args.tid.0 c.args.pid (address_in w) c.args.failed c.args.t.now c.args.g.now c.in-Err.how c.ready_row.new.t c.ready_row.new.g)
    (sym c.in-Read.is) (c.in-Err.ensures.turned (ReadOf c.in-Read.len) refl)

pub read_at-requires-clause-can : goal.read_at-requires-clause-can
read_at-requires-clause-can g c = c.in-Ok.ensures.ready.can

pub returns-in-Ok : goal.returns-in-Ok
returns-in-Ok g c =
    let ready = c.in-Ok.ensures.ready in
    subst (λ (w : AccessSpec). TurnsAccess g.G.PageStore (attempt_in w) c.args.tid.0 c.args.pid (address_in w) c.args.failed c.args.t.now c.args.g.now (threaded.Made c.read_at.new.answer) c.ready_row.new.t c.read_at.new.g)
    (sym c.in-Read.is)
    (turns-made g.G.PageStore (ReadOf c.in-Read.len) c.args.tid.0 c.args.pid c.in-Read.addr c.args.failed c.args.t.now c.args.g.now access_kind.Read c.in-Ok.row refl
    c.ready_row.new.t ready.same c.ready_row.new.g ready c.read_at.new.answer _ c.read_at.new.g c.read_at.ensures.done c.read_at.ensures.loans)

pub returns-in-Err-ready_row : goal.returns-in-Err-ready_row
returns-in-Err-ready_row g c =
    subst (λ (w : AccessSpec). TurnsAccess g.G.PageStore (attempt_in w) c.args.tid.0 c.args.pid (address_in w) c.args.failed c.args.t.now c.args.g.now c.in-Err-ready_row.how c.ready_row-in-Write.new.t c.ready_row-in-Write.new.g)
    (sym c.in-Write.is) (c.in-Err-ready_row.ensures.turned (WriteOf c.in-Write.bytes) refl)

pub write_row-requires-clause-can : goal.write_row-requires-clause-can
write_row-requires-clause-can g c = c.in-Ok-ready_row.ensures.ready.can

pub returns-in-Ok-ready_row : goal.returns-in-Ok-ready_row
returns-in-Ok-ready_row g c =
    let ready = c.in-Ok-ready_row.ensures.ready in
    subst (λ (w : AccessSpec). TurnsAccess g.G.PageStore (attempt_in w) c.args.tid.0 c.args.pid (address_in w) c.args.failed c.args.t.now c.args.g.now (threaded.Made c.write_row.new.answer) c.write_row.new.t c.write_row.new.g)
    (sym c.in-Write.is)
    (turns-made g.G.PageStore (WriteOf c.in-Write.bytes) c.args.tid.0 c.args.pid c.in-Write.addr c.args.failed c.args.t.now c.args.g.now access_kind.Write c.in-Ok-ready_row.row refl
    c.ready_row-in-Write.new.t ready.same c.ready_row-in-Write.new.g ready c.write_row.new.answer _ c.write_row.new.g c.write_row.ensures.done c.write_row.ensures.loans)
