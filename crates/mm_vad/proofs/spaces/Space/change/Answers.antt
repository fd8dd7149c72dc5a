use Rattle.std.proofs.Common.{sym}
use Rattle.mm_vad.specs.{change_by}
use Rattle.mm_vad.proofs.{Changed, range_told, can_none, none_missing, fits, after_change}
use Rattle.mm_vad.proofs.spaces.Space.change.Goals as goal
use Rattle.mm_vad.proofs.spaces.Space.change.Goals.{After-change}

pub unreachable-requires : goal.unreachable-requires
unreachable-requires c = can_none c.args.change _ _ c.requires (sym c.in_default.ensures.found)

pub unreachable-requires-in_default-get_mut : goal.unreachable-requires-in_default-get_mut
unreachable-requires-in_default-get_mut c = none_missing c.self.inside.regions _ _ _ _ _ c.self.invariant c.self.view_is (range_told c.self.inside.regions _ _ c.self.invariant c.self.view_is c.args.v.0 _ c.in-Some.ensures.found) c.in_default-get_mut.ensures.value

pub change-requires : goal.change-requires
change-requires c = fits c.self.inside.regions _ _ _ _ _ c.self.invariant c.self.view_is (range_told c.self.inside.regions _ _ c.self.invariant c.self.view_is c.args.v.0 _ c.in-Some.ensures.found) c.in-Some-get_mut.region.now c.args.change c.in-Some-get_mut.ensures.value c.requires

changed : (c : After-change) → Changed (c.get_mut.follows.lender c.change.new.self) c.self.inside.taken c.args.v.0 (change_by c.args.change c.args.v.0) c.args.self.now
changed c = after_change c.self.inside.regions _ _ _ _ _ c.self.invariant c.self.view_is (range_told c.self.inside.regions _ _ c.self.invariant c.self.view_is c.args.v.0 _ c.in-Some.ensures.found) _ c.args.change _ _ c.in-Some-get_mut.ensures.value c.change.ensures c.requires (c.get_mut.follows.holds c.change.new.self)

pub invariant_of-self : goal.invariant_of-self
invariant_of-self c = (changed (goal.at.invariant_of-self c).After-change).index

pub returns-clause-after : goal.returns-clause-after
returns-clause-after c = (changed (goal.at.returns-clause-after c).After-change).shown

pub returns-clause-sound : goal.returns-clause-sound
returns-clause-sound c = (changed (goal.at.returns-clause-sound c).After-change).sound
