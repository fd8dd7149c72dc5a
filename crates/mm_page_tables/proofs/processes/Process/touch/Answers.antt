use Rattle.std.proofs.Common.{ap}
use Rattle.std.specs.Prelude.{is_some}
use Rattle.mm_page_tables.specs.{resident_set}
use Rattle.mm_page_tables.proofs.{ages_touched, set_held, place_of_valid, touched_kept}
use Rattle.mm_page_tables.proofs.processes.Process.touch.Goals as goal

pub touch-requires : goal.touch-requires
touch-requires c = ap is_some (set_held c.args.self.now.table c.args.self.now.set c.args.self.now.is_open c.args.v.0 c.in-Valid.field-0 c.in-Valid.place c.args.self.now.kept c.in-Valid.ensures)

pub invariant_of-self : goal.invariant_of-self
invariant_of-self c = record {
  kept = touched_kept c.args.self.now.table c.args.self.now.set c.args.self.now.is_open c.args.self.now.kept c.args.v.0 c.in-Valid.place
      (place_of_valid c.args.self.now.table c.args.v.0 c.in-Valid.field-0 c.in-Valid.place c.in-Valid.ensures) c.touch.new.self (c.touch.ensures c.args.v.0 (set_held c.args.self.now.table c.args.self.now.set c.args.self.now.is_open c.args.v.0 c.in-Valid.field-0 c.in-Valid.place c.args.self.now.kept c.in-Valid.ensures));
}

pub returns-clause-ages : goal.returns-clause-ages
returns-clause-ages c = ages_touched c.args.self.now.set c.touch.new.self c.args.v.0 (c.touch.ensures c.args.v.0 (set_held c.args.self.now.table c.args.self.now.set c.args.self.now.is_open c.args.v.0 c.in-Valid.field-0 c.in-Valid.place c.args.self.now.kept c.in-Valid.ensures))

pub returns-clause-resident : goal.returns-clause-resident
returns-clause-resident c = ap resident_set (c.touch.ensures c.args.v.0 (set_held c.args.self.now.table c.args.self.now.set c.args.self.now.is_open c.args.v.0 c.in-Valid.field-0 c.in-Valid.place c.args.self.now.kept c.in-Valid.ensures))
