use Rattle.std.proofs.Common.{sym, ap, ◌∙◌, is_some}
use Rattle.mm_world.specs.{is_private as private}
use Rattle.mm_address_spaces.proofs.Kept.{is_in_private}
use Rattle.mm_address_spaces.proofs.spaces.AddressSpace.is_in_private.Goals as goal

pub returns-in-Some : goal.returns-in-Some
returns-in-Some c =
    c.is_private.ensures ∙ sym (is_in_private c.args.self.now.regions c.args.range c.in-Some.region.now c.in-Some.ensures.some)

pub returns-in-None : goal.returns-in-None
returns-in-None c = sym (ap is_some (c.in-None.ensures.none.only (λ r. private r.kind)))
