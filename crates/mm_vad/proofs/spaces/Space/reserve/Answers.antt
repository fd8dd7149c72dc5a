use Rattle.std.proofs.Common.{ap}
use Rattle.std.specs.Prelude.{nat_eq}
use Rattle.std.specs.HashMap.{get}
use Rattle.mm_vad.proofs.{after_none}
use Rattle.mm_vad.proofs.spaces.Space.reserve.Goals as goal

pub invariant_of-self-in_err-reserve-2 : goal.invariant_of-self-in_err-reserve-2
invariant_of-self-in_err-reserve-2 c = after_none (get nat_eq c.self.inside.regions) (get nat_eq c.reserve-2.new.self) c.self.inside.taken.ranges _ c.reserve-2.ensures.entries.2 (ap (λ g. g.ranges) c.in_ok-reserve.ensures.ok) c.self.invariant

pub invariant_of-self-2 : goal.invariant_of-self-2
invariant_of-self-2 c = after_none (get nat_eq c.self.inside.regions) (get nat_eq c.reserve-2.new.self) c.self.inside.taken.ranges _ c.reserve-2.ensures.entries.2 (ap (λ g. g.ranges) c.in_ok-reserve.ensures.ok) c.self.invariant
