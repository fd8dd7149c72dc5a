use Rattle.std.proofs.Common.{List, sym, ap, subst}
use Rattle.std.specs.Prelude.{IsTrue, nat_eq}
use Rattle.std.specs.HashMap.{get}
use Rattle.mm_types.specs.{Range, is_free}
use Rattle.mm_vad.specs.{region_range, add_region}
use Rattle.mm_vad.proofs.{Done, after_add, ranges_shown}
use Rattle.mm_vad.proofs.spaces.Space.add.Goals as goal
use Rattle.mm_vad.proofs.spaces.Space.add.Goals.{In-Ok}

pub insert-requires-clause-free : goal.insert-requires-clause-free
insert-requires-clause-free c = subst (λ (rs : List Range). IsTrue (is_free rs (region_range c.args.region))) (sym (ranges_shown c.self.inside.regions _ _ c.self.invariant c.self.view_is)) c.requires.free

done : (c : In-Ok) → Done (get nat_eq c.insert-2.new.self) c.insert.new.self.ranges (add_region c.args.self.now.regions c.args.region)
done c =
    after_add c.self.inside.regions _ _ c.self.invariant c.self.view_is c.insert-2.new.self _ c.args.region (subst (λ (rs : List Range). IsTrue (is_free rs (region_range c.args.region))) (sym (ranges_shown c.self.inside.regions _ _ c.self.invariant c.self.view_is)) c.requires.free)
    c.in-Ok.ensures.updates c.requires.whole c.requires.flags c.requires.some (ap (λ g. g.ranges) c.insert.ensures.after) c.insert.ensures.apart

pub invariant_of-self : goal.invariant_of-self
invariant_of-self c = (done (goal.at.invariant_of-self c).In-Ok).index

pub returns-clause-after : goal.returns-clause-after
returns-clause-after c = (done (goal.at.returns-clause-after c).In-Ok).shown

pub returns-clause-sound : goal.returns-clause-sound
returns-clause-sound c = (done (goal.at.returns-clause-sound c).In-Ok).sound
