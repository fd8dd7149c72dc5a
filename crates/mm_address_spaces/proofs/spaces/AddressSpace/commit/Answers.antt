use Rattle.mm_address_spaces.proofs.{base_allowed}
use Rattle.mm_address_spaces.proofs.spaces.AddressSpace.commit.Goals as goal

pub change-requires-clause-can : goal.change-requires-clause-can
change-requires-clause-can c = λ r e page row low high at. (c.requires.private r e, base_allowed c.args.prot c.requires.prot)
