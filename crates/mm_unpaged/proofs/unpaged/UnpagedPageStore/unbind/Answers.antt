use Rattle.mm_unpaged.proofs.{fits_unbound}
use Rattle.mm_unpaged.proofs.unpaged.UnpagedPageStore.unbind.Goals as goal

pub invariant_of-self-clause-fits : goal.invariant_of-self-clause-fits
invariant_of-self-clause-fits g c = fits_unbound _ _ c.args.self.now.fits c.unbind_all.ensures.bound c.unbind_all.ensures.count
