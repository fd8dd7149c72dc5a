use Rattle.mm_address_spaces.proofs.spaces.AddressSpace.info.Goals as goal

pub region_info-requires-clause-private : goal.region_info-requires-clause-private
region_info-requires-clause-private c = c.in-Private.is
