use Rattle.std.proofs.Common.{ap}
use Rattle.mm_page_tables.specs.{bare, pages}
use Rattle.mm_page_tables.proofs.{after_bind, bind_kept, user_bound}
use Rattle.mm_page_tables.proofs.processes.Process.bind.Goals as goal

pub invariant_of-self : goal.invariant_of-self
invariant_of-self c = record {
  kept = bind_kept c.args.self.now.table c.args.self.now.set c.args.self.now.is_open c.args.self.now.kept c.reserve.new.self
      (after_bind c.reserve.result c.args.self.now.table c.reserve.new.self (pages c.args.first.0 c.args.n) c.reserve.ensures.ok c.reserve.ensures.err) c.requires.opened
      (user_bound c.reserve.result c.args.self.now.table c.reserve.new.self c.args.first.0 c.args.n c.reserve.ensures.ok c.reserve.ensures.err c.requires.high c.args.self.now.kept.user);
}

pub returns-clause-at : goal.returns-clause-at
returns-clause-at c q = ap bare (after_bind c.reserve.result c.args.self.now.table c.reserve.new.self (pages c.args.first.0 c.args.n) c.reserve.ensures.ok c.reserve.ensures.err q)
