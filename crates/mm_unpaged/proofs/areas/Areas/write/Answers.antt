use Rattle.std.proofs.Common.{Some}
use Rattle.std.specs.Prelude.{slice_set, unwrap_or}
use Rattle.mm_world.specs.{written, filled}
use Rattle.mm_unpaged.specs.declared.areas.AreaPages.TheVariants.{Paged}
use Rattle.mm_unpaged.specs.{area_pages, page_of_area}
use Rattle.mm_unpaged.proofs.{set_area, live_place}
use Rattle.mm_unpaged.proofs.areas.Areas.write.Goals as goal

pub returns-clause-areas : goal.returns-clause-areas
returns-clause-areas c =
    let near = live_place c.args.self.now.areas.items c.args.area.0 c.args.index c.requires.live in
    set_area _ c.args.area.0 _ _ (λ o. Some (Paged (slice_set (area_pages o) c.args.index (Some (written (unwrap_or (page_of_area o c.args.index) (filled 0)) c.args.off c.args.bytes.now))))) near c.index_mut.ensures.value c.write_page.ensures
