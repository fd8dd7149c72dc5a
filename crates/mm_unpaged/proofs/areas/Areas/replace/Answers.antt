use Rattle.std.proofs.Common.{Some}
use Rattle.std.specs.Prelude.{slice_set}
use Rattle.mm_unpaged.specs.declared.areas.AreaPages.TheVariants.{Paged}
use Rattle.mm_unpaged.specs.{area_pages}
use Rattle.mm_unpaged.proofs.{set_area, has_place}
use Rattle.mm_unpaged.proofs.areas.Areas.replace.Goals as goal

pub returns-clause-areas : goal.returns-clause-areas
returns-clause-areas c =
    let near = has_place c.args.self.now.areas.items c.args.area.0 c.args.index c.requires in
    set_area _ c.args.area.0 _ _ (λ o. Some (Paged (slice_set (area_pages o) c.args.index c.args.page))) near c.index_mut.ensures.value c.replace_page.ensures.area
