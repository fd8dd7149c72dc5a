use Rattle.std.proofs.Common.{◌+◌, ap, sym, ◌∙◌, arith}
use Rattle.mm_slots.specs.{free_count}
use Rattle.mm_replay.proofs.{one_apart, few_apart}
use Rattle.mm_replay.proofs.free_slots.SlotMap.count.Goals as goal

pub overflow_add-result : goal.overflow_add-result
overflow_add-result c =
    let s = c.self.inside in
    omega (arith, few_apart s.free.items s.others.free s.lowest c.in-Some.field-0 c.in-Some.is c.self.invariant, c.free_count-others.ensures.value, c.free_count-others.ensures.few)

pub returns-in-Some : goal.returns-in-Some
returns-in-Some c =
    let s = c.self.inside in
    ap (λ n. n + 1) c.free_count-others.ensures.value ∙ sym (one_apart s.free.items s.others.free s.lowest c.in-Some.field-0 c.in-Some.is c.self.invariant) ∙ ap free_count c.self.view_is
