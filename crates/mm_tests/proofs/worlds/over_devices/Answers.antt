use Rattle.std.proofs.Common.{ap, ◌∙◌}
use Rattle.mm_devices.specs.{MemBlocks}
use Rattle.mm_tests.proofs.worlds.over_devices.Goals as goal

pub over_new-requires-clause-slots : goal.over_new-requires-clause-slots
over_new-requires-clause-slots c = ap (λ (d : MemBlocks). d.blocks) c.new-paging.ensures.device ∙ c.requires.slots

pub over_new-requires-clause-blocks : goal.over_new-requires-clause-blocks
over_new-requires-clause-blocks c = ap (λ (d : MemBlocks). d.blocks) c.new-files.ensures.device ∙ c.requires.blocks
