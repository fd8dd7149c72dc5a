use Rattle.std.proofs.Common.{◌≡◌, length, sym, ap, ◌∙◌, arith}
use Rattle.mm_slots.specs.{SlotsOf}
use Rattle.mm_slots.proofs.{length-flags}
use Rattle.mm_slots.proofs.slots.Slots.len.Goals as goal

pub returns-clause-value : goal.returns-clause-value
returns-clause-value c = sym (length-flags _ c.self.inside.slots) ∙ ap (λ (v : SlotsOf). length v.free) c.self.view_is

pub returns-clause-fits : goal.returns-clause-fits
returns-clause-fits c =
    let many : c.self.inside.slots ≡ length c.args.self.now.free = sym (length-flags _ c.self.inside.slots) ∙ ap (λ (v : SlotsOf). length v.free) c.self.view_is in
    omega (arith, many)
