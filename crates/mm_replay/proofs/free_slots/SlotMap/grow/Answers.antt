use Rattle.std.proofs.Common.{◌++◌, ℕ, List, Bool, true, Option, replicate, subst, sym, ap, ◌∙◌}
use Rattle.mm_replay.specs.{AreApartFrom}
use Rattle.mm_replay.proofs.{grown_some}
use Rattle.mm_replay.proofs.free_slots.SlotMap.grow.Goals as goal

pub invariant_of-self-in-Some : goal.invariant_of-self-in-Some
invariant_of-self-in-Some c =
    let i = c.self.inside in
    let more = replicate c.args.count true in
    let apart = subst (λ (o : Option ℕ). AreApartFrom i.free.items o i.others.free) c.in-Some.is c.self.invariant in
    let grown = c.grow.ensures ∙ ap (λ (xs : List Bool). xs ++ replicate c.args.count true) c.reserve.ensures.same in
    let made = grown_some i.free.items i.others.free c.grow.new.self.free more _ apart grown in
    subst (λ (xs : List Bool). AreApartFrom xs i.lowest c.grow.new.self.free) (sym c.in_ok-extend.ensures.ok)
    (subst (λ (o : Option ℕ). AreApartFrom (i.free.items ++ replicate c.args.count true) o c.grow.new.self.free) (sym c.in-Some.is) made)
