use Rattle.std.proofs.Common.{◌≡◌, ◌∙◌, ap, option_map, Some}
use Rattle.mm_types.proofs.{some_found}
use Rattle.mm_types.specs.declared.views.Kind.TheVariants as kind
use Rattle.mm_types.specs.{Range}
use Rattle.mm_world.specs.{RegionOf, pages_of, Found, process_of}
use Rattle.mm_object_tables.proofs.{unmapped, toward_settled, toward_set, after_settled, after_set, dropped, private_lowest, view_lowest, view_info}
use Rattle.mm_object_tables.proofs.{has_lowest, for_set, for_settled, ranked_removed}
use Rattle.mm_object_tables.proofs.tables.Tables.drop_lowest.Goals as goal

pub release_region-requires-clause-there : goal.release_region-requires-clause-there
release_region-requires-clause-there g c p lives =
    let first : c.range.inside.first ≡ c.args.info.pages.first = ap (λ (r : Range). r.first) c.range.view_is in
    let low = has_lowest p c.args.info.pages kind.Private (c.requires.there p lives ∙ (λ i. Some (record { pages = c.args.info.pages; kind = c.in-Private.is i }))) in
    ap (option_map (λ (r : Found (RegionOf (Unit {0}))). pages_of r.thing)) (private_lowest p c.args.info.pages c.range.inside.first low first) ∙ ap (λ (r : Range). Some r) low.pages

pub unmap_view-requires-clause-there : goal.unmap_view-requires-clause-there
unmap_view-requires-clause-there g c p lives =
    let first : c.range.inside.first ≡ c.args.info.pages.first = ap (λ (r : Range). r.first) c.range.view_is in
    view_info p c.args.info.pages c.in-View.view c.range.inside.first (has_lowest p c.args.info.pages (kind.View c.in-View.view) (c.requires.there p lives ∙ (λ i. Some (record { pages = c.args.info.pages; kind = c.in-View.is i })))) first

pub returns-in-Private : goal.returns-in-Private
returns-in-Private g c =
    let t = c.args.self.now in
    let v = c.release_region.new.self in
    let p = some_found (process_of t c.args.pid.0) c.requires.ready.lives in
    let first : c.range.inside.first ≡ c.args.info.pages.first = ap (λ (r : Range). r.first) c.range.view_is in
    let low = has_lowest p.0 c.args.info.pages kind.Private (c.requires.there p.0 p.1 ∙ (λ i. Some (record { pages = c.args.info.pages; kind = c.in-Private.is i }))) in
    let removed = c.release_region.ensures.changed p.0 (record { place = 0; thing = low.region }) p.1 (private_lowest p.0 c.args.info.pages c.range.inside.first low first) in
    let d = dropped c.args.pid.0 t v p.0 low.region p.1 low.at (after_set t v c.args.pid.0 p.0 (unmapped p.0 0) p.1 removed)
    (toward_set c.args.pid.0 t (Some (unmapped p.0 0)) removed c.release_region.ensures.frees.settled c.release_region.ensures.less
    (λ rank. for_set rank c.args.pid.0 t v p.0 (unmapped p.0 0) p.1 removed (ranked_removed p.0 (c.requires.closed p.0 p.1)))) in
    record {
      nears = record { toward = d.toward; lives = d.lives; loans = c.release_region.ensures.frees.loans };
      fewer = d.fewer;
      passes = λ held from to for among. c.release_region.ensures.frees.passes held from to among;
    }

pub returns-in-View : goal.returns-in-View
returns-in-View g c =
    let t = c.args.self.now in
    let v = c.unmap_view.new.self in
    let p = some_found (process_of t c.args.pid.0) c.requires.ready.lives in
    let first : c.range.inside.first ≡ c.args.info.pages.first = ap (λ (r : Range). r.first) c.range.view_is in
    let low = has_lowest p.0 c.args.info.pages (kind.View c.in-View.view) (c.requires.there p.0 p.1 ∙ (λ i. Some (record { pages = c.args.info.pages; kind = c.in-View.is i }))) in
    let removed = c.unmap_view.ensures.removed p.0 (record { place = 0; thing = low.region }) p.1 (view_lowest p.0 c.args.info.pages c.in-View.view c.range.inside.first low first) in
    let d = dropped c.args.pid.0 t v p.0 low.region p.1 low.at (after_settled t v c.args.pid.0 p.0 (unmapped p.0 0) p.1 removed)
    (toward_settled c.args.pid.0 t (Some (unmapped p.0 0)) removed c.unmap_view.ensures.shrinks.settled c.unmap_view.ensures.shrinks.less
    (λ rank. for_settled rank c.args.pid.0 t v p.0 (unmapped p.0 0) p.1 removed (ranked_removed p.0 (c.requires.closed p.0 p.1)))) in
    record {
      nears = record { toward = d.toward; lives = d.lives; loans = c.unmap_view.ensures.shrinks.loans };
      fewer = d.fewer;
      passes = c.unmap_view.ensures.passes;
    }
