use Rattle.std.proofs.Common.{refl}
use Rattle.mm_move_rules.specs.{record_at}
use Rattle.mm_pfn_database.specs.{is_bound}
use Rattle.mm_pfn_database.proofs.{used_if, page_written}
use Rattle.mm_pfn_database.proofs.frames.Frames.page.Goals as goal

pub page-requires : goal.page-requires
page-requires c =
    page_written c.self.invariant c.self.view_is c.args.f.0 (used_if is_bound (record_at c.args.self.now.table c.args.f.0) refl c.requires.kept) c.requires.not_read
