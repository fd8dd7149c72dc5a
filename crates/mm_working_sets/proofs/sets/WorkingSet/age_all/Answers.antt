use Rattle.std.proofs.Common.{subst}
use Rattle.mm_working_sets.specs.{WorkingSetOf, AgesBy, older, ages_of}
use Rattle.mm_working_sets.proofs.{older_keeps}
use Rattle.mm_working_sets.proofs.sets.WorkingSet.age_all.Goals as goal

pub invariant_of-self : goal.invariant_of-self
invariant_of-self c =
    let s = c.self.inside in
    older_keeps _ s.places (ages_of s.pages) _ s.rounds s.used_in.items c.self.invariant _ _ c.saturating_add-self-inside.result c.age_all.ensures.ages c.age_all.ensures.room c.saturating_add-self-inside.ensures

pub returns-clause-ages : goal.returns-clause-ages
returns-clause-ages c = subst (λ (w : WorkingSetOf). AgesBy older w.ages (ages_of c.age_all.new.self)) c.self.view_is c.age_all.ensures.ages
