use Rattle.std.proofs.Common.{Some, None, sym, ap, ◌∙◌}
use Rattle.mm_world.specs.{next_base}
use Rattle.mm_address_spaces.specs.{RegionsOf}
use Rattle.mm_address_spaces.proofs.{next_shown, next_behind}
use Rattle.mm_address_spaces.proofs.spaces.AddressSpace.next_base.Goals as goal

pub returns-in-Some-clause-next : goal.returns-in-Some-clause-next
returns-in-Some-clause-next c =
    sym (next_shown c.self.inside.space.regions c.args.page (Some c.in-Some.region.now) c.in-Some.ensures.found)
    ∙ ap (λ (v : RegionsOf). next_base v.regions c.args.page) c.self.view_is

pub returns-in-Some-clause-behind : goal.returns-in-Some-clause-behind
returns-in-Some-clause-behind c =
    (next_behind c.self.inside.space.regions c.args.page c.in-Some.region.now c.self.invariant c.in-Some.ensures.found).0

pub returns-in-Some-clause-within : goal.returns-in-Some-clause-within
returns-in-Some-clause-within c =
    (next_behind c.self.inside.space.regions c.args.page c.in-Some.region.now c.self.invariant c.in-Some.ensures.found).1

pub returns-in-None-clause-next : goal.returns-in-None-clause-next
returns-in-None-clause-next c =
    sym (next_shown c.self.inside.space.regions c.args.page None c.in-None.ensures.found)
    ∙ ap (λ (v : RegionsOf). next_base v.regions c.args.page) c.self.view_is
