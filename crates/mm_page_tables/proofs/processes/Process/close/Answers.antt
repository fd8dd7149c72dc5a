use Rattle.std.proofs.Common.{ℕ, false, sym, subst}
use Rattle.std.specs.Ordering.{nat_cmp}
use Rattle.std.specs.FinMap.{FinMap}
use Rattle.mm_page_tables.specs.{IsKeptProcess}
use Rattle.mm_page_tables.proofs.{close_kept, none_resident}
use Rattle.mm_page_tables.proofs.KeptProcesses.{no_word}
use Rattle.mm_page_tables.proofs.processes.Process.close.Goals as goal

pub give_back-requires : goal.give_back-requires
give_back-requires c = no_word c.args.self.now.table c.args.self.now.set c.args.self.now.is_open c.args.self.now.kept c.requires

pub release-requires : goal.release-requires
release-requires c = none_resident c.args.self.now.table c.args.self.now.set c.args.self.now.is_open c.args.self.now.kept c.requires

pub invariant_of-self : goal.invariant_of-self
invariant_of-self c = record {
  kept =
      subst (λ (t : FinMap nat_cmp ℕ). IsKeptProcess t c.release.new.self false) (sym c.give_back.ensures)
      (close_kept c.args.self.now.table c.args.self.now.set c.args.self.now.is_open c.args.self.now.kept c.requires c.release.new.self c.release.ensures);
}
