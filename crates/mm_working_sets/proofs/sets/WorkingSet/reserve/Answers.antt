use Rattle.std.proofs.Common.{true, ap, ◌∙◌, arith}
use Rattle.mm_working_sets.specs.{WorkingSetOf, ages_of}
use Rattle.mm_working_sets.proofs.{empty_keeps, no_room, same_maps}
use Rattle.mm_working_sets.proofs.sets.WorkingSet.reserve.Goals as goal

pub invariant_of-self : goal.invariant_of-self
invariant_of-self c =
    let s = c.self.inside in
    empty_keeps s.max s.rounds c.capacity-room.result c.in_ok-places.places _ _ c.in_ok-used_in.used_in.items c.in_ok-places.ensures.empty c.in_ok-pages.ensures.ages (λ some. c.in_ok-pages.ensures.room)
    c.in_ok-places.ensures.capacity (omega (arith, c.capacity-room.ensures.value, c.if-room.false)) (c.in_ok-used_in.ensures.items_if_clones_equal (λ y e. e)) (omega (arith, c.capacity-room.ensures.value))

pub returns-clause-ok : goal.returns-clause-ok
returns-clause-ok c =
    let s = c.self.inside in
    same_maps _ s.places (ages_of s.pages) _ s.rounds s.used_in.items c.self.invariant (no_room s.max s.is_reserved s.places (ages_of s.pages) _ s.rounds s.used_in.items c.self.invariant c.if-self.false)
    s.min s.max s.is_reserved true _ c.in_ok-places.places c.in_ok-pages.ensures.ages c.in_ok-places.ensures.empty
    ∙ ap (λ (w : WorkingSetOf). record w { reserved = true }) c.self.view_is
