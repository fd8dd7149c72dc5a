use Rattle.std.proofs.Common.{◌+◌, ◌∙◌, ◌==◌, None, Some, replicate, refl, ap}
use Rattle.std.proofs.lemmas.List.{length-replicate}
use Rattle.mm_move_rules.specs.{changed}
use Rattle.mm_unpaged.specs.declared.areas.AreaPages.TheVariants.{Paged}
use Rattle.mm_unpaged.specs.{area_in, pages_at, pages_in, sizes_of, unpaged_report}
use Rattle.mm_unpaged.proofs.{files_fit_areas, fits_areas, on_ok, opened, opened_or_not, same_parts, sizes_changed}
use Rattle.mm_unpaged.proofs.unpaged.UnpagedPageStore.open_area.Goals as goal

pub invariant_of-self : goal.invariant_of-self
invariant_of-self g c =
    let s = c.args.self.now in
    let e = c.open.ensures in
    let kept = opened_or_not c.open.result (pages_at s.places) (area_in s.areas) (area_in c.open.new.self) s.file_pages.items c.args.area.0 c.args.n c.requires.new e.ok e.err in
    record { fits = fits_areas s.fits e.count; files_fit = files_fit_areas s.files_fit kept.block; numbers = s.numbers }

pub returns-clause-ok : goal.returns-clause-ok
returns-clause-ok g c =
    let s = c.args.self.now in
    let areas = area_in s.areas in
    let n = c.args.n in
    on_ok c.open.result (λ e.
    let kept = opened (pages_at s.places) areas (area_in c.open.new.self) s.file_pages.items c.args.area.0 n c.requires.new e in
    same_parts _ _ _ _ _ _ _ _ _ (sizes_changed areas _ c.args.area.0 (Some (Paged (replicate n None))) e ∙ ap (λ k. changed ◌==◌ (sizes_of areas) c.args.area.0 (Some k)) (length-replicate n None))
    refl refl kept.paging (ap (λ k. pages_in s.places + k) c.open.ensures.count) refl kept.blocks refl (ap (unpaged_report s.writes) kept.contents)) c.open.ensures.ok

pub returns-clause-contents : goal.returns-clause-contents
returns-clause-contents g c =
    let s = c.args.self.now in
    (opened_or_not c.open.result (pages_at s.places) (area_in s.areas) (area_in c.open.new.self) s.file_pages.items c.args.area.0 c.args.n c.requires.new c.open.ensures.ok c.open.ensures.err).contents
