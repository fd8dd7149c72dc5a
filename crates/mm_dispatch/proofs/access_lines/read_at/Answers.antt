use Rattle.std.proofs.Common.{sym, ◌∙◌}
use Rattle.mm_types.specs.declared.answers.Answer.TheVariants as answer
use Rattle.mm_world.specs.{ReadOf, world_with, done}
use Rattle.mm_store.specs.{touch}
use Rattle.mm_object_tables.specs.{key_bytes}
use Rattle.mm_dispatch.proofs.{access-had, access-lost, gives_bytes, touches_tell, read-needs, reads}
use Rattle.mm_dispatch.proofs.access_lines.read_at.Goals as goal

pub returns-in-Ok-clause-done : goal.returns-in-Ok-clause-done
returns-in-Ok-clause-done g c =
    let old = key_bytes (g.G.PageStore.contents c.args.g.now) in
    access-had g.G.PageStore c.args.t.now c.args.pid c.args.addr (ReadOf c.args.len) c.read_bytes.result (touch c.args.row.key) (read-needs c.args.t.now old c.args.pid.0 c.args.addr c.args.len c.args.row c.requires.can.admitted) c.read_bytes.ensures.ends c.read_bytes.ensures.touched (touches_tell _ _ _)
    c.args.t.now c.read_bytes.ensures.touched.fits c.requires.can.keeps.few c.in-Ok.bytes c.in-Ok.is (answer.Bytes c.in-Ok.bytes) (gives_bytes c.in-Ok.bytes)
    (reads c.args.t.now old c.args.pid.0 c.args.addr c.args.len c.args.row c.requires.can.admitted
    ∙ (λ i. done (answer.Bytes (sym c.in-Ok.ensures.bytes i)) (world_with c.args.t.now (key_bytes (sym c.read_bytes.ensures.contents i)))))

pub returns-in-Err-clause-done : goal.returns-in-Err-clause-done
returns-in-Err-clause-done g c =
    let old = key_bytes (g.G.PageStore.contents c.args.g.now) in
    access-lost g.G.PageStore c.args.t.now c.args.pid c.args.addr (ReadOf c.args.len) c.read_bytes.result (touch c.args.row.key) (read-needs c.args.t.now old c.args.pid.0 c.args.addr c.args.len c.args.row c.requires.can.admitted) c.read_bytes.ensures.ends c.read_bytes.ensures.touched (touches_tell _ _ _)
    c.args.t.now c.read_bytes.ensures.touched.fits c.requires.can.keeps.few c.in-Err.field-0 c.in-Err.is
    (λ i. world_with c.args.t.now (key_bytes (c.read_bytes.ensures.contents i)))
