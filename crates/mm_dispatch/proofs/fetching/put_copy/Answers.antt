use Rattle.std.proofs.Common.{rules, ◌≡◌, true, Err, refl, sym, subst}
use Rattle.std.proofs.lemmas.Result.{err_from_is_err_and}
use Rattle.mm_types.specs.{Key, page_of}
use Rattle.mm_store.specs.{place_at, touch, copying, IsReady}
use Rattle.mm_dispatch.proofs.{copied_then, copied_err}
use Rattle.mm_store.proofs.{served_then}
use Rattle.mm_dispatch.proofs.fetching.put_copy.Goals as goal

pub returns-in_err-copy-clause-copied : goal.returns-in_err-copy-clause-copied
returns-in_err-copy-clause-copied g c =
    let p = err_from_is_err_and c.from_residual.result c.from_residual.ensures.1 in
    let is : c.from_residual.result ≡ Err c.in_err-copy.field-0.0 = let err = p.1 in let from = p.2 in cc in
    let passes = copied_err g.G.PageStore.unpaged _ _ c.copy.result _ _ _ _ _ _ c.in_err-copy.was is c.copy.ensures.copied.passes in
    search (rules, passes)

pub returns-clause-copied : goal.returns-clause-copied
returns-clause-copied g c =
    let place = place_at c.args.pid (page_of c.args.addr) in
    let s = g.G.PageStore.store c.args.g.now in
    let m = g.G.PageStore.store c.copy.new.g in
    let ready : IsReady m place (touch c.own_key_of.result) = subst (λ (k : Key). IsReady m place (touch k)) (sym c.own_key_of.ensures) c.in_ok-copy.ensures.own.ready in
    record {
      fits = search rules;
      line = search rules;
      served = served_then _ _ _ c.copy.ensures.copied.served c.put.ensures.touched.served;
      blamed = search rules;
      was_ready = search rules;
      unpaged = search rules;
      passes = copied_then
          (record { place = place; need = copying c.args.row.key place; writes = true; start = (g.G.PageStore.behind c.args.g.now).life })
          (record { place = place; need = touch c.own_key_of.result; writes = true; start = (g.G.PageStore.behind c.copy.new.g).life })
          refl refl refl c.own_key_of.ensures (IsReady s place (copying c.args.row.key place)) (IsReady m place (touch c.own_key_of.result)) ready g.G.PageStore.unpaged c.copy.result c.put.result _ _ _ _
          c.in_ok-copy.was c.in-Ok.is refl s m (g.G.PageStore.store c.put.new.g) (g.G.PageStore.behind c.args.g.now) (g.G.PageStore.behind c.copy.new.g) (g.G.PageStore.behind c.put.new.g) c.copy.ensures.copied.passes c.put.ensures.touched.passes;
      loans = search rules;
    }
