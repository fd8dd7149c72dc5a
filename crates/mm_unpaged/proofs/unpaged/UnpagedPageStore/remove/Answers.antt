use Rattle.std.proofs.Common.{◌∙◌, refl, sym, ap, arith}
use Rattle.mm_types.specs.{Key}
use Rattle.mm_store.specs.{unnamed}
use Rattle.mm_unpaged.specs.{names_in, one_if_live}
use Rattle.mm_unpaged.proofs.{at_place, in_area, fits_then, files_fit_areas, live_near, same_parts}
use Rattle.mm_unpaged.proofs.unpaged.UnpagedPageStore.remove.Goals as goal

pub invariant_of-self-clause-fits : goal.invariant_of-self-clause-fits
invariant_of-self-clause-fits g c =
    let s = c.args.self.now in
    fits_then s.fits c.take-page.ensures.bound (omega (arith, c.take-page.ensures.count, s.fits.boxes, c.put.ensures.boxes, c.put.ensures.room))

pub replace-requires : goal.replace-requires
replace-requires g c = live_near c.args.self.now c.in-Shared.is c.requires.live

pub invariant_of-self-in-Shared : goal.invariant_of-self-in-Shared
invariant_of-self-in-Shared g c =
    let s = c.args.self.now in
    let e = c.replace.ensures in
    record {
      fits = fits_then s.fits refl (omega (arith, e.count, ap one_if_live c.in-Some.is, s.fits.boxes, c.put-in-Shared.ensures.boxes, c.put-in-Shared.ensures.room));
      files_fit = files_fit_areas s.files_fit (in_area s (live_near s c.in-Shared.is c.requires.live) e.areas c.in-Shared.is).block;
      numbers = s.numbers;
    }

pub returns-in-Private-clause-contents : goal.returns-in-Private-clause-contents
returns-in-Private-clause-contents g c = (at_place c.args.self.now c.take-page.ensures.pages c.in-Private.is).contents

pub returns-in-Private-clause-store : goal.returns-in-Private-clause-store
returns-in-Private-clause-store g c =
    let s = c.args.self.now in
    let e = c.take-page.ensures in
    same_parts _ _ _ _ _ _ _ _ _ refl e.bound (e.names ∙ ap (λ (k : Key). unnamed k (names_in s.places)) (sym c.in-Private.is)) (at_place s e.pages c.in-Private.is).paging (omega (arith, e.count)) c.put.ensures.room refl refl refl

pub returns-in-Some-clause-contents : goal.returns-in-Some-clause-contents
returns-in-Some-clause-contents g c =
    let s = c.args.self.now in
    (in_area s (live_near s c.in-Shared.is c.requires.live) c.replace.ensures.areas c.in-Shared.is).contents

pub returns-in-Some-clause-store : goal.returns-in-Some-clause-store
returns-in-Some-clause-store g c =
    let s = c.args.self.now in
    let k = c.in-Shared in
    let e = c.replace.ensures in
    let new = in_area s (live_near s k.is c.requires.live) e.areas k.is in
    same_parts _ _ _ _ _ _ _ _ _ new.sizes refl (ap (λ (q : Key). unnamed q (names_in s.places)) (sym k.is)) new.paging (omega (arith, e.count, ap one_if_live c.in-Some.is)) c.put-in-Shared.ensures.room new.blocks refl refl
