use Rattle.std.proofs.Common.{◌<◌, false, ap, ◌∙◌, arith}
use Rattle.std.specs.FinMap as finite
use Rattle.mm_working_sets.specs.{WorkingSetOf, ages_of}
use Rattle.mm_working_sets.proofs.{empty_keeps, same_maps}
use Rattle.mm_working_sets.proofs.sets.WorkingSet.release.Goals as goal

pub invariant_of-self : goal.invariant_of-self
invariant_of-self c =
    empty_keeps 0 c.self.inside.rounds 0 c.new.result _ _ c.new-2.result.items c.new.ensures.empty c.unreserved.ensures (λ (some : 0 < 0). absurd (omega (arith, some)))
    (omega arith) (omega (arith, c.new.ensures.capacity)) c.new-2.ensures.items (omega (arith, c.new.ensures.capacity))

pub returns : goal.returns
returns c =
    let s = c.self.inside in
    same_maps _ s.places (ages_of s.pages) _ s.rounds s.used_in.items c.self.invariant (ap (λ (w : WorkingSetOf). finite.len w.places) c.self.view_is ∙ c.requires)
    s.min s.max s.is_reserved false _ c.new.result c.unreserved.ensures c.new.ensures.empty
    ∙ ap (λ (w : WorkingSetOf). record w { reserved = false }) c.self.view_is
