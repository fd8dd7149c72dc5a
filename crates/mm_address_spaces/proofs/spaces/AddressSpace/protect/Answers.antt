use Rattle.mm_address_spaces.proofs.{can_protect, all_owned}
use Rattle.mm_address_spaces.proofs.spaces.AddressSpace.protect.Goals as goal

pub change-requires-clause-can : goal.change-requires-clause-can
change-requires-clause-can c = λ r e.
    can_protect c.args.self.now.regions c.args.range r c.args.prot e (c.requires.accepted r e) (λ private. all_owned c.args.self.now.regions c.args.range c.requires.inside (c.requires.committed r e private))
