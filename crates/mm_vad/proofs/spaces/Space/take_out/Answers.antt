use Rattle.std.proofs.Common.{ap, ◌∙◌}
use Rattle.std.specs.Prelude.{nat_eq}
use Rattle.std.specs.HashMap.{get}
use Rattle.mm_vad.specs.{remove_region}
use Rattle.mm_vad.proofs.{Done, after_remove, begun_shown, with_base_shown}
use Rattle.mm_vad.proofs.spaces.Space.take_out.Goals as goal
use Rattle.mm_vad.proofs.spaces.Space.take_out.Goals.{After-remove-2}

pub remove-requires : goal.remove-requires
remove-requires c = begun_shown c.self.inside.regions _ _ c.self.invariant c.self.view_is c.args.base.0 c.requires

pub returns-clause-removed : goal.returns-clause-removed
returns-clause-removed c = c.remove-2.ensures.value ∙ with_base_shown c.self.inside.regions _ _ c.self.invariant c.self.view_is c.args.base.0 c.requires

done : (c : After-remove-2) → Done (get nat_eq c.remove-2.new.self) c.remove.new.self.ranges (remove_region c.args.self.now.regions c.args.base.0)
done c = after_remove c.self.inside.regions _ _ c.self.invariant c.self.view_is c.remove-2.new.self _ c.args.base.0 c.remove-2.ensures.updates (ap (λ g. g.ranges) c.remove.ensures.after) c.remove.ensures.apart

pub invariant_of-self : goal.invariant_of-self
invariant_of-self c = (done (goal.at.invariant_of-self c).After-remove-2).index

pub returns-clause-after : goal.returns-clause-after
returns-clause-after c = (done (goal.at.returns-clause-after c).After-remove-2).shown

pub returns-clause-sound : goal.returns-clause-sound
returns-clause-sound c = (done (goal.at.returns-clause-sound c).After-remove-2).sound
