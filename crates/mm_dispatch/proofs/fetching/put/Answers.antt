use Rattle.std.proofs.Common.{rules, ◌≡◌, ◌∙◌, ap, Some}
use Rattle.mm_object_tables.specs.{key_at}
use Rattle.mm_dispatch.proofs.{fits_put, key-live}
use Rattle.mm_dispatch.proofs.fetching.put.Goals as goal

pub returns-clause-touched : goal.returns-clause-touched
returns-clause-touched g c =
    let t = c.args.t.now in
    let at : key_at t c.place_of.result ≡ Some c.args.key = ap (key_at t) c.place_of.ensures ∙ c.requires.can.at in
    let fits = fits_put t _ _ _ _ c.place_of.result c.args.key c.requires.can.fits at c.write.ensures.done.answered.served c.write.ensures.done.answered.stored c.write.result _
    (key-live t _ _ c.requires.can.fits c.place_of.result c.args.key at)
    c.write.ensures.written c.write.ensures.kept c.write.ensures.done.ok c.write.ensures.done.err in
    search (rules, fits)
