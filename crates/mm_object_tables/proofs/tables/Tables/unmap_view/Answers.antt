use Rattle.std.proofs.Common.{inr, ap, ◌∙◌, arith, ◌-◌}
use Rattle.mm_types.specs.{end_of}
use Rattle.mm_store.specs.{page_rank, place_at, StoreOf}
use Rattle.mm_object_tables.proofs.{its_area_inside, whole_can, whole_charged, whole_stays, whole_ends, ends_at, ends_bound, unmap_end, unmap_there}
use Rattle.mm_object_tables.proofs.{unmap_can, unmap_counted, unmap_charged, unmap_step, unmap_named, unmap_some, range_then, given_unbound, Held, held_by}
use Rattle.mm_object_tables.proofs.{unmap_around, lives_there}
use Rattle.mm_object_tables.proofs.tables.Tables.unmap_view.Given as given
use Rattle.mm_object_tables.proofs.tables.Tables.unmap_view.Goals as goal
use Rattle.mm_object_tables.proofs.tables.Tables.unmap_view.Goals.{After-space_of-space}

held : (g : given.Over) (c : After-space_of-space g) → Held c.self.inside c.args.self.now c.args.pid.0 c.index_mut.result.now c.space_of-space.result.now.regions
held g c = held_by c.self.inside c.args.self.now c.self.view_is c.self.invariant c.args.pid.0 c.index_mut.result.now c.requires.ready.lives c.index_mut.ensures.value c.space_of-space.ensures.value

pub space_of-space-requires : goal.space_of-space-requires
space_of-space-requires g c = record { lives = lives_there c.self.inside c.args.self.now c.self.view_is c.args.pid.0 c.index_mut.result.now c.requires.ready.lives c.index_mut.ensures.value }

pub marked-marked-requires : goal.marked-marked-requires
marked-marked-requires g c = record { inside = unmap_around c.args.pid (held g (goal.at.marked-marked-requires g c).After-space_of-space) c.args.addr c.requires.there }

pub release_pages-requires : goal.release_pages-requires
release_pages-requires g c =
    let k = held g (goal.at.release_pages-requires g c).After-space_of-space in
    record {
      end = unmap_end c.args.pid k c.args.addr c.requires.there c.requires.ready.fits;
      around = unmap_around c.args.pid k c.args.addr c.requires.there;
      can = unmap_can c.args.pid k c.args.addr c.requires.there c.requires.ready.fits c.requires.ready.kind_is;
    }

pub remove-requires : goal.remove-requires
remove-requires g c = record { there = inr (unmap_there c.args.pid (held g (goal.at.remove-requires g c).After-space_of-space) c.args.addr c.requires.there) }

pub refund-requires : goal.refund-requires
refund-requires g c =
    let k = held g (goal.at.refund-requires g c).After-space_of-space in
    unmap_charged c.args.pid k c.args.addr c.requires.there c.requires.ready.fits c.marked-marked.ensures

pub drop_view_of-ended-requires : goal.drop_view_of-ended-requires
drop_view_of-ended-requires g c =
    let k = held g (goal.at.drop_view_of-ended-requires g c).After-space_of-space in
    record { lives = unmap_counted c.args.pid k c.args.addr c.requires.there }

pub index_mut-pages-requires : goal.index_mut-pages-requires
index_mut-pages-requires g c =
    let k = held g (goal.at.index_mut-pages-requires g c).After-space_of-space in
    let w = unmap_step c.args.pid k c.args.addr c.requires.there c.requires.ready.fits c.marked-marked.ensures c.remove.new.self
    c.remove.ensures.view c.release_pages.ensures.gives_up.given_up c.refund.ensures c.drop_view_of-ended.ensures in
    let inside = its_area_inside w c.in-Some.is in
    omega (arith, inside, c.self.inside.areas.ok)

pub end_area-requires : goal.end_area-requires
end_area-requires g c =
    let k = held g (goal.at.end_area-requires g c).After-space_of-space in
    let w = unmap_step c.args.pid k c.args.addr c.requires.there c.requires.ready.fits c.marked-marked.ensures c.remove.new.self
    c.remove.ensures.view c.release_pages.ensures.gives_up.given_up c.refund.ensures c.drop_view_of-ended.ensures in
    record {
      can = whole_can w c.in-Some.is c.index_mut-pages.ensures.value (inr (c.args.pid, ap (λ (x : StoreOf). x.kind) w.rest ∙ c.requires.ready.kind_is));
      charged = whole_charged w c.in-Some.is c.index_mut-pages.ensures.value;
    }

pub invariant_of-self : goal.invariant_of-self
invariant_of-self g c =
    let k = held g (goal.at.invariant_of-self g c).After-space_of-space in
    let w = unmap_step c.args.pid k c.args.addr c.requires.there c.requires.ready.fits c.marked-marked.ensures c.remove.new.self
    c.remove.ensures.view c.release_pages.ensures.gives_up.given_up c.refund.ensures c.drop_view_of-ended.ensures in
    (whole_ends w c.in-Some.is c.index_mut-pages.ensures.value c.end_area.ensures.ended c.end_area.ensures.refunded c.end_area.ensures.ends.file c.end_area.ensures.ends.emptied).kept

pub invariant_of-self-in_default : goal.invariant_of-self-in_default
invariant_of-self-in_default g c =
    let k = held g (goal.at.invariant_of-self-in_default g c).After-space_of-space in
    let w = unmap_step c.args.pid k c.args.addr c.requires.there c.requires.ready.fits c.marked-marked.ensures c.remove.new.self
    c.remove.ensures.view c.release_pages.ensures.gives_up.given_up c.refund.ensures c.drop_view_of-ended.ensures in
    (whole_stays w c.in_default.is).kept

pub returns-in-Some : goal.returns-in-Some
returns-in-Some g c =
    let k = held g (goal.at.returns-in-Some g c).After-space_of-space in
    let w = unmap_step c.args.pid k c.args.addr c.requires.there c.requires.ready.fits c.marked-marked.ensures c.remove.new.self
    c.remove.ensures.view c.release_pages.ensures.gives_up.given_up c.refund.ensures c.drop_view_of-ended.ensures in
    let e = whole_ends w c.in-Some.is c.index_mut-pages.ensures.value c.end_area.ensures.ended c.end_area.ensures.refunded c.end_area.ensures.ends.file c.end_area.ensures.ends.emptied in
    let unbound = given_unbound (unmap_end c.args.pid k c.args.addr c.requires.there c.requires.ready.fits) c.release_pages.ensures.gives_up.given_up in
    record {
      removed = λ p r lives found. e.is ∙ unmap_named c.args.pid k c.args.addr c.requires.there p r lives found;
      shrinks = record { settled = e.settled; less = e.less_live; loans = c.end_area.ensures.loans ∙ c.release_pages.ensures.gives_up.loans };
      unbound = record { each = λ page held. ends_bound c.end_area.ensures.ends (place_at c.args.pid page) ∙ unbound.each page held; end = unbound.end };
      passes = λ held from to for among.
          let some = unmap_some c.args.pid k c.args.addr c.requires.there in
          range_then g.G.PageStore.unpaged held from to c.args.pid c.args.range (g.G.PageStore.store c.args.g.now) (g.G.PageStore.store c.release_pages.new.g) (g.G.PageStore.store c.end_area.new.g)
          (g.G.PageStore.behind c.args.g.now) (g.G.PageStore.behind c.release_pages.new.g) (g.G.PageStore.behind c.end_area.new.g) some among (c.release_pages.ensures.gives_up.passes held)
          (c.end_area.ensures.passes held (page_rank (end_of c.args.range) - 1) to (λ paging.
          let at = ends_at w c.in-Some.is c.index_mut-pages.ensures.value paging held.rank for in
          (omega (arith, at), omega (arith, at, among.last, some))));
    }

pub returns-in_default : goal.returns-in_default
returns-in_default g c =
    let k = held g (goal.at.returns-in_default g c).After-space_of-space in
    let w = unmap_step c.args.pid k c.args.addr c.requires.there c.requires.ready.fits c.marked-marked.ensures c.remove.new.self
    c.remove.ensures.view c.release_pages.ensures.gives_up.given_up c.refund.ensures c.drop_view_of-ended.ensures in
    let e = whole_stays w c.in_default.is in
    record {
      removed = λ p r lives found. e.is ∙ unmap_named c.args.pid k c.args.addr c.requires.there p r lives found;
      shrinks = record { settled = e.settled; less = e.less_live; loans = c.release_pages.ensures.gives_up.loans };
      unbound = given_unbound (unmap_end c.args.pid k c.args.addr c.requires.there c.requires.ready.fits) c.release_pages.ensures.gives_up.given_up;
      passes = λ held from to for among. c.release_pages.ensures.gives_up.passes held from to among;
    }
