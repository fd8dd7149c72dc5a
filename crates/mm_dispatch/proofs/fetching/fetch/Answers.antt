use Rattle.std.proofs.Common.{rules, ◌≡◌, ◌∙◌, ap, Some}
use Rattle.mm_object_tables.specs.{key_at}
use Rattle.mm_dispatch.proofs.{fits_fetch}
use Rattle.mm_dispatch.proofs.fetching.fetch.Goals as goal

pub returns-clause-touched : goal.returns-clause-touched
returns-clause-touched g c =
    let t = c.args.t.now in
    let at : key_at t c.place_of.result ≡ Some c.args.key = ap (key_at t) c.place_of.ensures ∙ c.requires.can.at in
    let fits = fits_fetch t _ _ _ _ c.place_of.result c.args.key c.requires.can.fits at c.read.ensures.done.answered.served c.read.ensures.done.answered.stored c.read.result c.read.ensures.contents c.read.ensures.done.ok c.read.ensures.done.err in
    search (rules, fits)
