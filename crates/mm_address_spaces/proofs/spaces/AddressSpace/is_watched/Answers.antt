use Rattle.std.proofs.Common.{is_some, sym, ap, ◌∙◌}
use Rattle.mm_address_spaces.proofs.{watched_told}
use Rattle.mm_address_spaces.proofs.spaces.AddressSpace.is_watched.Goals as goal

pub returns-in-Some : goal.returns-in-Some
returns-in-Some c = c.is_some.ensures ∙ sym (watched_told c.args.self.now.regions c.args.range c.in-Some.region.now c.in-Some.ensures.some)

pub returns-in-None : goal.returns-in-None
returns-in-None c = sym (ap is_some (c.in-None.ensures.none.only (λ x. is_some x.watched)))
