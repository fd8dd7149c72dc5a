use Rattle.mm_address_spaces.proofs.{row_low}
use Rattle.mm_address_spaces.proofs.spaces.AddressSpace.protection_at.Goals as goal

pub protection_of_row-requires : goal.protection_of_row-requires
protection_of_row-requires c =
    row_low c.args.self.now.regions c.args.range.first _ c.args.region.now c.get-row.result c.requires.around.at c.get-row.ensures
