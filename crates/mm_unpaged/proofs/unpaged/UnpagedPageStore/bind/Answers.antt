use Rattle.mm_unpaged.proofs.{fits_bound}
use Rattle.mm_unpaged.proofs.unpaged.UnpagedPageStore.bind.Goals as goal

pub invariant_of-self-clause-fits : goal.invariant_of-self-clause-fits
invariant_of-self-clause-fits g c =
    let e = c.bind_all.ensures in
    fits_bound _ _ c.bind_all.result c.requires.user c.args.self.now.fits e.bound e.still_bound e.count
