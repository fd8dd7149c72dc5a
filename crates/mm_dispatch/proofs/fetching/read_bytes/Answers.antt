use Rattle.std.proofs.Common.{rules, ◌≡◌, Err, refl}
use Rattle.std.proofs.lemmas.Result.{err_from_is_err_and}
use Rattle.mm_dispatch.proofs.{touched_ok, touched_err}
use Rattle.mm_dispatch.proofs.fetching.read_bytes.Goals as goal

pub returns-in_err-fetch-clause-touched : goal.returns-in_err-fetch-clause-touched
returns-in_err-fetch-clause-touched g c =
    let p = err_from_is_err_and c.from_residual.result c.from_residual.ensures.1 in
    let is : c.from_residual.result ≡ Err c.in_err-fetch.field-0.0 = let err = p.1 in let from = p.2 in cc in
    let passes = touched_err g.G.PageStore.unpaged _ _ c.fetch.result _ _ _ _ _ _ c.in_err-fetch.was is c.fetch.ensures.touched.passes in
    search (rules, passes)

pub returns-clause-touched : goal.returns-clause-touched
returns-clause-touched g c =
    let did = c.fetch.ensures.touched in
    record {
      fits = did.fits;
      line = did.line;
      served = did.served;
      blamed = search rules;
      was_ready = search rules;
      unpaged = search rules;
      passes = touched_ok g.G.PageStore.unpaged _ _ c.fetch.result _ _ _ _ _ _ _ c.in_ok-fetch.was refl did.passes;
      loans = did.loans;
    }
