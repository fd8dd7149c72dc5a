use Rattle.std.proofs.Common.{refl}
use Rattle.mm_page_tables.proofs.{bare_plain, becomes, set_kept}
use Rattle.mm_page_tables.proofs.processes.Process.set_entry.Goals as goal

pub invariant_of-self : goal.invariant_of-self
invariant_of-self c = record {
  kept = set_kept c.args.self.now.table c.args.self.now.set c.args.self.now.is_open c.args.self.now.kept c.set.new.self c.args.v.0 c.encode.result c.args.e
      c.set.ensures c.encode.ensures c.requires.bound c.requires.invalid c.requires.other c.requires.fits;
}

pub returns-clause-becomes : goal.returns-clause-becomes
returns-clause-becomes c = becomes c.args.self.now _ c.args.v.0 c.encode.result c.args.e c.set.ensures c.encode.ensures c.requires.fits c.requires.bound refl c.args.e (bare_plain c.args.e c.requires.other)
