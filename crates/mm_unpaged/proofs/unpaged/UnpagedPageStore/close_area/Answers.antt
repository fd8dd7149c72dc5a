use Rattle.std.proofs.Common.{◌≡◌, None, refl, ap, arith}
use Rattle.mm_unpaged.specs.{area_in, count_of, pages_at, unpaged_report}
use Rattle.mm_unpaged.proofs.{closed, dead_count, files_fit_areas, fits_areas, open_place, same_parts, sizes_changed}
use Rattle.mm_unpaged.proofs.unpaged.UnpagedPageStore.close_area.Goals as goal

pub set-requires : goal.set-requires
set-requires g c =
    let areas = c.args.self.now.areas.areas in
    record { place = omega (arith, areas.ok.0, open_place areas.items c.args.area.0 c.requires.open) }

pub invariant_of-self : goal.invariant_of-self
invariant_of-self g c =
    let s = c.args.self.now in
    let e = c.set.ensures in
    let dead = dead_count s.file_pages.items (area_in s.areas c.args.area.0) c.requires.dead in
    let none : count_of None ≡ 0 = refl in
    let kept = closed (pages_at s.places) (area_in s.areas) _ s.file_pages.items c.args.area.0 c.requires.dead (s.files_fit.near c.args.area.0) e.areas in
    record { fits = fits_areas s.fits (omega (arith, e.count, dead, none)); files_fit = files_fit_areas s.files_fit kept.block; numbers = s.numbers }

pub returns-clause-store : goal.returns-clause-store
returns-clause-store g c =
    let s = c.args.self.now in
    let e = c.set.ensures in
    let dead = dead_count s.file_pages.items (area_in s.areas c.args.area.0) c.requires.dead in
    let none : count_of None ≡ 0 = refl in
    let kept = closed (pages_at s.places) (area_in s.areas) _ s.file_pages.items c.args.area.0 c.requires.dead (s.files_fit.near c.args.area.0) e.areas in
    same_parts _ _ _ _ _ _ _ _ _ (sizes_changed (area_in s.areas) _ c.args.area.0 None e.areas) refl refl kept.paging (omega (arith, e.count, dead, none)) refl kept.blocks refl (ap (unpaged_report s.writes) kept.contents)

pub returns-clause-contents : goal.returns-clause-contents
returns-clause-contents g c =
    let s = c.args.self.now in
    (closed (pages_at s.places) (area_in s.areas) _ s.file_pages.items c.args.area.0 c.requires.dead (s.files_fit.near c.args.area.0) c.set.ensures.areas).contents
