use Rattle.std.proofs.Common.{◌∙◌, Some, refl, ap, arith}
use Rattle.mm_world.specs.{same_key}
use Rattle.mm_move_rules.specs.{changed}
use Rattle.mm_unpaged.specs.{contents_in, one_if_live}
use Rattle.mm_unpaged.proofs.{at_place, in_area, fits_then, files_fit_areas, home_near, same_parts}
use Rattle.mm_unpaged.proofs.unpaged.UnpagedPageStore.add.Goals as goal

pub invariant_of-self-clause-fits : goal.invariant_of-self-clause-fits
invariant_of-self-clause-fits g c =
    let s = c.args.self.now in
    fits_then s.fits c.put.ensures.bound (omega (arith, c.put.ensures.count, s.fits.boxes, c.requires.room, c.take-page.ensures.boxes, c.take-page.ensures.room))

pub replace-requires : goal.replace-requires
replace-requires g c = (home_near c.args.self.now c.in-Shared.is c.requires.home c.requires.dead c.args.self.now.files_fit).0

pub invariant_of-self-in-Shared : goal.invariant_of-self-in-Shared
invariant_of-self-in-Shared g c =
    let s = c.args.self.now in
    let k = c.in-Shared in
    let e = c.replace.ensures in
    let home = home_near s k.is c.requires.home c.requires.dead s.files_fit in
    let none = ap one_if_live (e.page ∙ home.1) in
    record {
      fits = fits_then s.fits refl (omega (arith, e.count, none, s.fits.boxes, c.requires.room, c.take-page.ensures.boxes, c.take-page.ensures.room));
      files_fit = files_fit_areas s.files_fit (in_area s home.0 e.areas k.is).block;
      numbers = s.numbers;
    }

pub returns-in-Private-clause-contents : goal.returns-in-Private-clause-contents
returns-in-Private-clause-contents g c =
    let s = c.args.self.now in
    (at_place s c.put.ensures.pages c.in-Private.is).contents ∙ ap (λ p. changed same_key (contents_in s) c.args.key (Some p)) c.take-page.ensures.page

pub returns-in-Private-clause-store : goal.returns-in-Private-clause-store
returns-in-Private-clause-store g c =
    let e = c.put.ensures in
    same_parts _ _ _ _ _ _ _ _ _ refl e.bound e.names (at_place c.args.self.now e.pages c.in-Private.is).paging (omega (arith, e.count)) c.take-page.ensures.room refl refl refl

pub returns-in-Shared-clause-contents : goal.returns-in-Shared-clause-contents
returns-in-Shared-clause-contents g c =
    let s = c.args.self.now in
    let k = c.in-Shared in
    let home = home_near s k.is c.requires.home c.requires.dead s.files_fit in
    (in_area s home.0 c.replace.ensures.areas k.is).contents ∙ ap (λ p. changed same_key (contents_in s) c.args.key (Some p)) c.take-page.ensures.page

pub returns-in-Shared-clause-store : goal.returns-in-Shared-clause-store
returns-in-Shared-clause-store g c =
    let s = c.args.self.now in
    let e = c.replace.ensures in
    let home = home_near s c.in-Shared.is c.requires.home c.requires.dead s.files_fit in
    let none = ap one_if_live (e.page ∙ home.1) in
    let new = in_area s home.0 e.areas c.in-Shared.is in
    same_parts _ _ _ _ _ _ _ _ _ new.sizes refl refl new.paging (omega (arith, e.count, none)) c.take-page.ensures.room new.blocks refl refl
