use Rattle.mm_move_rules.specs.{record_at}
use Rattle.mm_ram.specs.{bytes_of}
use Rattle.mm_pfn_database.proofs.{owned_used, page_low, page_written, page_changed}
use Rattle.mm_pfn_database.proofs.frames.Frames.copy.Goals as goal

pub copy-requires-clause-written : goal.copy-requires-clause-written
copy-requires-clause-written c =
    page_written c.self.invariant c.self.view_is c.args.from.0 (owned_used (record_at c.args.self.now.table c.args.from.0) c.requires.from_owned) c.requires.from_not_read

pub copy-requires-clause-there : goal.copy-requires-clause-there
copy-requires-clause-there c = page_low c.self.invariant c.self.view_is c.args.to.0 (owned_used (record_at c.args.self.now.table c.args.to.0) c.requires.to_owned)

pub invariant_of-self : goal.invariant_of-self
invariant_of-self c =
    page_changed c.self.invariant c.self.view_is c.args.to.0 (owned_used (record_at c.args.self.now.table c.args.to.0) c.requires.to_owned)
    c.copy.new.self (bytes_of c.self.inside.ram c.args.from.0) c.copy.ensures
