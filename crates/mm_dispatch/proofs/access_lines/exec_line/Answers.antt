use Rattle.std.proofs.Common.{refl, sym, ◌∙◌}
use Rattle.mm_types.specs.declared.answers.Answer.TheVariants as answer
use Rattle.mm_world.specs.{Execute, world_with, done}
use Rattle.mm_store.specs.{touch}
use Rattle.mm_object_tables.specs.{key_bytes}
use Rattle.mm_dispatch.proofs.{access-had, access-lost, gives_ok, touches_tell, execute-needs, executes, line-made}
use Rattle.mm_dispatch.proofs.access_lines.exec_line.Goals as goal

pub fetch-requires-clause-can : goal.fetch-requires-clause-can
fetch-requires-clause-can g c =
    let can = c.in-Some.ensures.entered.can (touch c.in-Some.row.key) in
    record { fits = can.keeps.fits; at = can.at; may = can.may }

pub fetch-requires-clause-begun : goal.fetch-requires-clause-begun
fetch-requires-clause-begun g c = (c.in-Some.ensures.entered.can (touch c.in-Some.row.key)).begun

pub returns-in-None-clause-done : goal.returns-in-None-clause-done
returns-in-None-clause-done g c = c.in-None.ensures.refused Execute refl

pub returns-in-Ok-clause-done : goal.returns-in-Ok-clause-done
returns-in-Ok-clause-done g c =
    let began = c.in-Some.ensures.entered in
    let can = began.can (touch c.in-Some.row.key) in
    let t = c.enter.new.t in
    let old = key_bytes (g.G.PageStore.contents c.enter.new.g) in
    line-made g.G.PageStore c.args.pid c.args.addr Execute began.on began.same
    (access-had g.G.PageStore t c.args.pid c.args.addr Execute c.fetch.result (touch c.in-Some.row.key) (execute-needs t old c.args.pid.0 c.args.addr c.in-Some.row can.admitted) c.fetch.ensures.ends c.fetch.ensures.touched (touches_tell _ _ _)
    t c.fetch.ensures.touched.fits can.keeps.few c.in-Ok.field-0 c.in-Ok.is answer.Ok gives_ok
    (executes t old c.args.pid.0 c.args.addr c.in-Some.row can.admitted ∙ (λ i. done answer.Ok (world_with t (key_bytes (sym c.fetch.ensures.contents i))))))

pub returns-in-Err-clause-done : goal.returns-in-Err-clause-done
returns-in-Err-clause-done g c =
    let began = c.in-Some.ensures.entered in
    let can = began.can (touch c.in-Some.row.key) in
    let t = c.enter.new.t in
    let old = key_bytes (g.G.PageStore.contents c.enter.new.g) in
    line-made g.G.PageStore c.args.pid c.args.addr Execute began.on began.same
    (access-lost g.G.PageStore t c.args.pid c.args.addr Execute c.fetch.result (touch c.in-Some.row.key) (execute-needs t old c.args.pid.0 c.args.addr c.in-Some.row can.admitted) c.fetch.ensures.ends c.fetch.ensures.touched (touches_tell _ _ _)
    t c.fetch.ensures.touched.fits can.keeps.few c.in-Err.field-0 c.in-Err.is
    (λ i. world_with t (key_bytes (c.fetch.ensures.contents i))))
