use Rattle.std.proofs.Common.{arith}
use Rattle.mm_slots.proofs.{slots_reserved}
use Rattle.mm_slots.proofs.slots.Slots.reserve.Goals as goal

pub invariant_of-self-2 : goal.invariant_of-self-2
invariant_of-self-2 c =
    let old = c.self.inside in
    slots_reserved old.back.words c.reserve.new.self.words old.back.room c.reserve.new.self.room _ _ _ _ _ c.self.invariant c.reserve.ensures.same
    (λ i h k. omega (arith, h, k, c.in_ok-reserve.ensures.ok, c.saturating_add.ensures))
