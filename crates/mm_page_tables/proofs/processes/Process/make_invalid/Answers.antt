use Rattle.std.proofs.Common.{refl, ap}
use Rattle.std.specs.Prelude.{is_some}
use Rattle.std.specs.FinMap as finite
use Rattle.mm_page_tables.proofs.{bare_plain, becomes, resident_less, ages_less, valid_bound, less_kept, set_held, place_of_valid, removed_page}
use Rattle.mm_page_tables.proofs.processes.Process.make_invalid.Goals as goal

pub remove-requires : goal.remove-requires
remove-requires c = ap is_some (set_held c.args.self.now.table c.args.self.now.set c.args.self.now.is_open c.args.v.0 c.in-Valid.field-0 c.in-Valid.place c.args.self.now.kept c.in-Valid.ensures)

pub invariant_of-self : goal.invariant_of-self
invariant_of-self c = record {
  kept = less_kept c.args.self.now.table c.set.new.self c.args.self.now.set c.remove.new.self c.args.self.now.is_open c.args.v.0 c.encode.result c.args.e c.in-Valid.place c.remove.result.0
      c.set.ensures c.encode.ensures c.remove.ensures.set (removed_page c.args.self.now.table c.args.self.now.set c.args.self.now.is_open c.args.v.0 c.in-Valid.field-0 c.in-Valid.place c.remove.result.0 c.args.self.now.kept c.in-Valid.ensures c.remove.ensures.page) c.args.self.now.kept (valid_bound (finite.get c.args.self.now.table c.args.v.0) c.requires.valid)
      (place_of_valid c.args.self.now.table c.args.v.0 c.in-Valid.field-0 c.in-Valid.place c.in-Valid.ensures) c.requires.other c.requires.fits;
}

pub returns-clause-becomes : goal.returns-clause-becomes
returns-clause-becomes c = becomes c.args.self.now _ c.args.v.0 c.encode.result c.args.e c.set.ensures c.encode.ensures c.requires.fits (valid_bound (finite.get c.args.self.now.table c.args.v.0) c.requires.valid) refl c.args.e (bare_plain c.args.e c.requires.other)

pub returns-clause-resident : goal.returns-clause-resident
returns-clause-resident c =
    resident_less c.args.self.now.set c.remove.new.self c.remove.result.0 c.in-Valid.place c.args.v.0 c.remove.ensures.set
    (set_held c.args.self.now.table c.args.self.now.set c.args.self.now.is_open c.args.v.0 c.in-Valid.field-0 c.in-Valid.place c.args.self.now.kept c.in-Valid.ensures)

pub returns-clause-ages : goal.returns-clause-ages
returns-clause-ages c = ages_less c.args.self.now.set c.remove.new.self c.args.v.0 c.remove.result.0 c.in-Valid.place c.remove.ensures.set (removed_page c.args.self.now.table c.args.self.now.set c.args.self.now.is_open c.args.v.0 c.in-Valid.field-0 c.in-Valid.place c.remove.result.0 c.args.self.now.kept c.in-Valid.ensures c.remove.ensures.page)
