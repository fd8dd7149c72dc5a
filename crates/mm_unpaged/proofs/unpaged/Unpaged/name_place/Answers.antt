use Rattle.mm_unpaged.proofs.{fits_kept}
use Rattle.mm_unpaged.proofs.unpaged.Unpaged.name_place.Goals as goal

pub invariant_of-self-clause-fits : goal.invariant_of-self-clause-fits
invariant_of-self-clause-fits g c = fits_kept c.args.self.now.fits c.name.ensures.bound c.name.ensures.count
