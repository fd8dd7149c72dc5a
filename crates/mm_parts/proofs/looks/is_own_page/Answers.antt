use Rattle.std.proofs.Common.{ap}
use Rattle.mm_page_tables.specs.{valid_frame}
use Rattle.mm_parts.proofs.looks.is_own_page.Goals as goal

pub look-requires : goal.look-requires
look-requires c = c.requires c.in-Valid.f (ap valid_frame c.in-Valid.is)
