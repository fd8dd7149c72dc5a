use Rattle.std.proofs.Common.{◌≡◌, ◌∙◌, List, Bool, true, ap, subst, sym}
use Rattle.mm_move_rules.specs.{is_lowest}
use Rattle.mm_replay.specs.{AreApartFrom}
use Rattle.mm_replay.proofs.{taken_next}
use Rattle.mm_replay.proofs.free_slots.SlotMap.take.Goals as goal

pub invariant_of-self : goal.invariant_of-self
invariant_of-self c =
    let i = c.self.inside in
    let lowest : is_lowest c.args.slot i.free.items ≡ true = ap (λ (xs : List Bool). is_lowest c.args.slot xs) c.self.view_is ∙ c.requires in
    let t = c.take-self-inside in
    subst (λ (xs : List Bool). AreApartFrom xs t.result t.new.self.free) (sym c.set_at.ensures)
    (taken_next i.free.items i.others.free t.new.self.free i.lowest t.result c.args.slot c.self.invariant lowest t.ensures.lowest t.ensures.taken)
