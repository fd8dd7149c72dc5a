use Rattle.std.proofs.Common.{◌≡◌, ◌∙◌, Some, sym, ap, subst, is_some}
use Rattle.mm_world.specs.{Found, process_of, region_with, is_private, page_info, RegionOf, pages_of}
use Rattle.mm_types.specs.{holds_page}
use Rattle.mm_world.proofs.{found_stands}
use Rattle.mm_address_spaces.specs.{PageInfo, IfTold, IfInView, LiesInView}
use Rattle.mm_calls.proofs.{in_section}
use Rattle.mm_calls.proofs.queries.page_info.Goals as goal
use Rattle.mm_types.proofs.{some_found, same_found}

pub area-requires : goal.area-requires
area-requires c =
    let t = c.args.t.now in
    let page = c.args.page in
    let rs = c.space-space.result.now.regions in
    let p = some_found (process_of t c.args.pid.0) c.requires.lives in
    let told = subst (λ (i : PageInfo). IfInView i (LiesInView rs page)) c.in-InView.is c.info.ensures.view in
    let found : region_with p.0.regions page ≡ Some told.region = ap (λ rs. region_with rs page) (sym (c.space-space.ensures p.0 p.1)) ∙ told.there in
    (in_section t c.args.pid.0 p.0 told.region.place told.region.thing c.in-InView.view p.1 c.sound.ensures.sound
    (found_stands (λ (r : RegionOf (Unit {0})). holds_page (pages_of r) page) p.0.regions told.region found).there told.kind_is).made

pub view_info-requires-clause-inside : goal.view_info-requires-clause-inside
view_info-requires-clause-inside c =
    let told = subst (λ (i : PageInfo). IfInView i (LiesInView c.space-space.result.now.regions c.args.page)) c.in-InView.is c.info.ensures.view in
    ap is_some told.there

pub view_info-requires-clause-view : goal.view_info-requires-clause-view
view_info-requires-clause-view c r e =
    let told = subst (λ (i : PageInfo). IfInView i (LiesInView c.space-space.result.now.regions c.args.page)) c.in-InView.is c.info.ensures.view in
    ap (λ (f : Found (RegionOf (Unit {0}))). is_private f.thing.kind) (sym (same_found _ told.region r told.there e)) ∙ ap is_private told.kind_is

pub returns-in-Told : goal.returns-in-Told
returns-in-Told c p lives =
    let t = c.args.t.now in
    let rs = c.space-space.result.now.regions in
    let page = c.args.page in
    subst (λ (i : PageInfo). IfTold i (λ info. info ≡ page_info t rs page (region_with rs page))) c.in-Told.is (c.info.ensures.told t)
    ∙ ap (λ rs. page_info t rs page (region_with rs page)) (c.space-space.ensures p lives)

pub returns-in-InView : goal.returns-in-InView
returns-in-InView c p lives =
    let t = c.args.t.now in
    let rs = c.space-space.result.now.regions in
    let page = c.args.page in
    let told = subst (λ (i : PageInfo). IfInView i (LiesInView rs page)) c.in-InView.is c.info.ensures.view in
    c.view_info.ensures t told.region c.in-InView.view told.there told.kind_is (sym c.area.ensures)
    ∙ ap (λ rs. page_info t rs page (region_with rs page)) (c.space-space.ensures p lives)
