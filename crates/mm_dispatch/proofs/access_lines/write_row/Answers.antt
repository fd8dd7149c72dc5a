use Rattle.std.proofs.Common.{◌≡◌, sym, ◌∙◌, ap, subst, cond, ◌%◌, Bool, Option, Some}
use Rattle.mm_types.specs.declared.answers.Answer.TheVariants as answer
use Rattle.mm_types.specs.declared.protections.Access.TheVariants as access_kind
use Rattle.mm_types.specs.{Key, page_of, page_size}
use Rattle.mm_world.specs.{WriteOf, written, Tables, world_with, same_key, private_key, set_row, done, Page}
use Rattle.mm_store.specs.{place_at, touch, copying}
use Rattle.mm_move_rules.specs.{changed}
use Rattle.mm_object_tables.specs.{key_bytes, MadeAtMost}
use Rattle.mm_dispatch.specs.{CanAccess}
use Rattle.mm_dispatch.proofs.{access-had, access-lost, copies_tell, touches_tell, gives_ok, twice-others, twice-at, changed-others, changed-at}
use Rattle.mm_dispatch.proofs.{copy-needs, copies-write, write-needs, writes, made-set_row, made-marks, key_itself, keys-same}
use Rattle.mm_dispatch.proofs.access_lines.write_row.Goals as goal

pub put_copy-requires-clause-can : goal.put_copy-requires-clause-can
put_copy-requires-clause-can g c =
    let can =
    subst (λ (b : Bool). CanAccess g.G.PageStore access_kind.Write c.args.t.now c.args.pid c.args.addr c.args.row (cond b (copying c.args.row.key (place_at c.args.pid (page_of c.args.addr))) (touch c.args.row.key)) c.args.g.now)
    c.if-row.true c.requires.can in
    record { fits = can.keeps.fits; spaces = can.spaces; admitted = can.admitted; copies = c.if-row.true; may = can.may; begun = can.begun }

pub put-requires-clause-can : goal.put-requires-clause-can
put-requires-clause-can g c =
    let can =
    subst (λ (b : Bool). CanAccess g.G.PageStore access_kind.Write c.args.t.now c.args.pid c.args.addr c.args.row (cond b (copying c.args.row.key (place_at c.args.pid (page_of c.args.addr))) (touch c.args.row.key)) c.args.g.now)
    c.if-row.false c.requires.can in
    record { fits = can.keeps.fits; at = can.at; may = can.may }

pub returns-in-Ok-clause-done : goal.returns-in-Ok-clause-done
returns-in-Ok-clause-done g c =
    let t = c.args.t.now in
    let old = g.G.PageStore.contents c.args.g.now in
    let can = c.requires.can in
    let h = can.admitted in
    let row = c.args.row in
    let page = page_of c.args.addr in
    let own = private_key c.args.pid.0 page in
    let call = c.put_copy in
    let new = g.G.PageStore.contents call.new.g in
    let line = (g.G.PageStore.store c.args.g.now).line in
    let stored : Page = written (key_bytes old row.key) (c.args.addr % page_size) c.args.bytes.now in
    let is : new ≡ changed same_key (changed same_key old own (old row.key)) own (Some stored) =
    c.in-Ok.ensures.written ∙ (λ i. changed same_key (changed same_key old own (old row.key)) own (Some (written (key_bytes old row.key) (c.args.addr % page_size) (c.as_slice.ensures.bytes i)))) in
    let tables : call.new.t ≡ set_row t c.args.pid.0 h.process h.row.region page (record h.row.row { own = Some tt; prot = 0x04 }) = c.in-Ok.ensures.row h.process h.row h.lives h.committed in
    rw c.if-row.true
    (access-had g.G.PageStore t c.args.pid c.args.addr (WriteOf c.args.bytes.now) call.result (copying row.key (place_at c.args.pid page)) (copy-needs t (key_bytes old) c.args.pid.0 c.args.addr c.args.bytes.now row h c.if-row.true) call.ensures.ends call.ensures.copied (copies_tell _ _ _)
    call.new.t call.ensures.copied.fits
    (subst (λ (v : Tables). MadeAtMost line v) (sym tables) (made-set_row t line c.args.pid.0 page h.process h.row.region (record h.row.row { own = Some tt; prot = 0x04 }) h.lives can.keeps.few)) c.in-Ok.field-0 c.in-Ok.is answer.Ok gives_ok
    (copies-write t (key_bytes old) c.args.pid.0 c.args.addr c.args.bytes.now row h (key_bytes new) can.spaces
    (λ k other. ap (λ (n : Key → Option Page). key_bytes n k) is ∙ twice-others old own (old row.key) stored k other)
    (ap (λ (n : Key → Option Page). key_bytes n own) is ∙ twice-at old own (old row.key) stored (key_itself c.args.pid.0 page)) c.if-row.true
    ∙ ap (λ (v : Tables). done answer.Ok (world_with v (key_bytes new))) (sym tables)))

pub returns-in-Err-clause-done : goal.returns-in-Err-clause-done
returns-in-Err-clause-done g c =
    let old = key_bytes (g.G.PageStore.contents c.args.g.now) in
    rw c.if-row.true
    (access-lost g.G.PageStore c.args.t.now c.args.pid c.args.addr (WriteOf c.args.bytes.now) c.put_copy.result (copying c.args.row.key (place_at c.args.pid (page_of c.args.addr))) (copy-needs c.args.t.now old c.args.pid.0 c.args.addr c.args.bytes.now c.args.row c.requires.can.admitted c.if-row.true) c.put_copy.ensures.ends c.put_copy.ensures.copied (copies_tell _ _ _)
    c.put_copy.new.t c.put_copy.ensures.copied.fits (subst (λ (v : Tables). MadeAtMost (g.G.PageStore.store c.args.g.now).line v) (sym c.in-Err.ensures.kept.0) c.requires.can.keeps.few) c.in-Err.field-0 c.in-Err.is
    (λ i. world_with (c.in-Err.ensures.kept.0 i) (key_bytes (c.in-Err.ensures.kept.1 i))))

pub returns-in-Ok-put-clause-done : goal.returns-in-Ok-put-clause-done
returns-in-Ok-put-clause-done g c =
    let t = c.args.t.now in
    let old = g.G.PageStore.contents c.args.g.now in
    let call = c.put in
    let new = g.G.PageStore.contents call.new.g in
    let key = c.args.row.key in
    let marks = c.mark_written.ensures.marks in
    let after = c.mark_written.new.t in
    let stored : Page = written (key_bytes old key) (c.args.addr % page_size) c.args.bytes.now in
    let is : new ≡ changed same_key old key (Some stored) = c.in-Ok-put.ensures.written ∙ (λ i. changed same_key old key (Some (written (key_bytes old key) (c.args.addr % page_size) (c.as_slice-else-row.ensures.bytes i)))) in
    rw c.if-row.false
    (access-had g.G.PageStore t c.args.pid c.args.addr (WriteOf c.args.bytes.now) call.result (touch key) (write-needs t (key_bytes old) c.args.pid.0 c.args.addr c.args.bytes.now c.args.row c.requires.can.admitted c.if-row.false) (call.ensures.ends c.requires.can.begun) call.ensures.touched (touches_tell _ _ _)
    after (c.mark_written.ensures.fits new (g.G.PageStore.store call.new.g) call.ensures.touched.fits)
    (made-marks t (g.G.PageStore.store c.args.g.now).line c.args.pid.0 c.args.addr access_kind.Write c.args.row c.requires.can.admitted after marks c.requires.can.keeps.few) c.in-Ok-put.field-0 c.in-Ok-put.is answer.Ok gives_ok
    (writes t (key_bytes old) c.args.pid.0 c.args.addr c.args.bytes.now c.args.row c.requires.can.admitted after marks (key_bytes new) c.requires.can.spaces
    (λ k other. ap (λ (n : Key → Option Page). key_bytes n k) is ∙ changed-others old key stored k other)
    (ap (λ (n : Key → Option Page). key_bytes n key) is ∙ changed-at old key stored (keys-same key)) c.if-row.false))

pub returns-in-Err-put-clause-done : goal.returns-in-Err-put-clause-done
returns-in-Err-put-clause-done g c =
    let old = key_bytes (g.G.PageStore.contents c.args.g.now) in
    rw c.if-row.false
    (access-lost g.G.PageStore c.args.t.now c.args.pid c.args.addr (WriteOf c.args.bytes.now) c.put.result (touch c.args.row.key) (write-needs c.args.t.now old c.args.pid.0 c.args.addr c.args.bytes.now c.args.row c.requires.can.admitted c.if-row.false) (c.put.ensures.ends c.requires.can.begun) c.put.ensures.touched (touches_tell _ _ _)
    c.args.t.now c.put.ensures.touched.fits c.requires.can.keeps.few c.in-Err-put.field-0 c.in-Err-put.is
    (λ i. world_with c.args.t.now (key_bytes (c.in-Err-put.ensures.kept i))))
