use Rattle.std.proofs.Common.{◌≡◌, refl, sym, ap, ◌∙◌, arith, true, false, is_some}
use Rattle.mm_store.specs.Housekeeping.{Ends}
use Rattle.mm_store.proofs.{turns_same}
use Rattle.mm_object_tables.proofs.{its_area_inside, whole_can, whole_charged, whole_stays, whole_ends, ends_at, close_held, close_counted, close_step}
use Rattle.mm_object_tables.proofs.{close_named, Held, held_by, lives_there}
use Rattle.mm_object_tables.specs.{process_regions}
use Rattle.mm_object_tables.proofs.tables.Tables.close_handle.Given as given
use Rattle.mm_object_tables.proofs.tables.Tables.close_handle.Goals as goal
use Rattle.mm_object_tables.proofs.tables.Tables.close_handle.Goals.{After-handles_of-handles}

held : (g : given.Over) (c : After-handles_of-handles g) → Held c.self.inside c.args.self.now c.args.pid.0 c.index_mut.result.now (process_regions c.index_mut.result.now)
held g c = held_by c.self.inside c.args.self.now c.self.view_is c.self.invariant c.args.pid.0 c.index_mut.result.now c.requires.lives c.index_mut.ensures.value refl

pub handles_of-handles-requires : goal.handles_of-handles-requires
handles_of-handles-requires g c = record { lives = lives_there c.self.inside c.args.self.now c.self.view_is c.args.pid.0 c.index_mut.result.now c.requires.lives c.index_mut.ensures.value }

pub unreachable-requires : goal.unreachable-requires
unreachable-requires g c =
    let k = held g (goal.at.unreachable-requires g c).After-handles_of-handles in
    let bad : false ≡ true = ap is_some c.in_default.ensures ∙ close_held k c.args.handle c.requires.there c.handles_of-handles.ensures.value in
    cc

pub close-requires : goal.close-requires
close-requires g c = close_held (held g (goal.at.close-requires g c).After-handles_of-handles) c.args.handle c.requires.there c.handles_of-handles.ensures.value

pub drop_handle_of-ended-requires : goal.drop_handle_of-ended-requires
drop_handle_of-ended-requires g c =
    record { lives = close_counted (held g (goal.at.drop_handle_of-ended-requires g c).After-handles_of-handles) c.args.handle c.requires.there c.handles_of-handles.ensures.value c.in-Some.id.0 (sym c.in-Some.ensures) }

pub index_mut-pages-requires : goal.index_mut-pages-requires
index_mut-pages-requires g c =
    let k = held g (goal.at.index_mut-pages-requires g c).After-handles_of-handles in
    let w = close_step k c.args.handle c.requires.there c.handles_of-handles.ensures.value c.close.new.self c.in-Some.id.0 c.close.ensures.closed (sym c.in-Some.ensures) c.drop_handle_of-ended.ensures c.requires.fits in
    let inside = its_area_inside w c.in-Some-ended.is in
    omega (arith, inside, c.self.inside.areas.ok)

pub end_area-requires : goal.end_area-requires
end_area-requires g c =
    let k = held g (goal.at.end_area-requires g c).After-handles_of-handles in
    let w = close_step k c.args.handle c.requires.there c.handles_of-handles.ensures.value c.close.new.self c.in-Some.id.0 c.close.ensures.closed (sym c.in-Some.ensures) c.drop_handle_of-ended.ensures c.requires.fits in
    record {
      can = whole_can w c.in-Some-ended.is c.index_mut-pages.ensures.value c.requires.kind;
      charged = whole_charged w c.in-Some-ended.is c.index_mut-pages.ensures.value;
    }

pub invariant_of-self : goal.invariant_of-self
invariant_of-self g c =
    let k = held g (goal.at.invariant_of-self g c).After-handles_of-handles in
    let w = close_step k c.args.handle c.requires.there c.handles_of-handles.ensures.value c.close.new.self c.in-Some.id.0 c.close.ensures.closed (sym c.in-Some.ensures) c.drop_handle_of-ended.ensures c.requires.fits in
    (whole_ends w c.in-Some-ended.is c.index_mut-pages.ensures.value c.end_area.ensures.ended c.end_area.ensures.refunded c.end_area.ensures.ends.file c.end_area.ensures.ends.emptied).kept

pub invariant_of-self-in_default-ended : goal.invariant_of-self-in_default-ended
invariant_of-self-in_default-ended g c =
    let k = held g (goal.at.invariant_of-self-in_default-ended g c).After-handles_of-handles in
    let w = close_step k c.args.handle c.requires.there c.handles_of-handles.ensures.value c.close.new.self c.in-Some.id.0 c.close.ensures.closed (sym c.in-Some.ensures) c.drop_handle_of-ended.ensures c.requires.fits in
    (whole_stays w c.in_default-ended.is).kept

pub returns-in-Some-ended : goal.returns-in-Some-ended
returns-in-Some-ended g c =
    let k = held g (goal.at.returns-in-Some-ended g c).After-handles_of-handles in
    let w = close_step k c.args.handle c.requires.there c.handles_of-handles.ensures.value c.close.new.self c.in-Some.id.0 c.close.ensures.closed (sym c.in-Some.ensures) c.drop_handle_of-ended.ensures c.requires.fits in
    let e = whole_ends w c.in-Some-ended.is c.index_mut-pages.ensures.value c.end_area.ensures.ended c.end_area.ensures.refunded c.end_area.ensures.ends.file c.end_area.ensures.ends.emptied in
    record {
      closed = λ p lives. e.is ∙ close_named k c.args.handle c.requires.there c.handles_of-handles.ensures.value p lives;
      shrinks = record { settled = e.settled; less = e.less_live; loans = c.end_area.ensures.loans };
      passes = λ held from to for low high. c.end_area.ensures.passes held from to (λ paging.
          let at = ends_at w c.in-Some-ended.is c.index_mut-pages.ensures.value paging held.rank for in
          (omega (arith, at, low), omega (arith, at, high)));
    }

pub returns-in_default-ended : goal.returns-in_default-ended
returns-in_default-ended g c =
    let k = held g (goal.at.returns-in_default-ended g c).After-handles_of-handles in
    let w = close_step k c.args.handle c.requires.there c.handles_of-handles.ensures.value c.close.new.self c.in-Some.id.0 c.close.ensures.closed (sym c.in-Some.ensures) c.drop_handle_of-ended.ensures c.requires.fits in
    let e = whole_stays w c.in_default-ended.is in
    record {
      closed = λ p lives. e.is ∙ close_named k c.args.handle c.requires.there c.handles_of-handles.ensures.value p lives;
      shrinks = record { settled = e.settled; less = e.less_live; loans = refl };
      passes = λ held from to for low high. turns_same g.G.PageStore.unpaged (Ends held from to) (g.G.PageStore.store c.args.g.now) (g.G.PageStore.behind c.args.g.now);
    }
