use Rattle.std.proofs.Common.{refl, arith}
use Rattle.mm_page_tables.specs.{IsEntry}
use Rattle.mm_page_tables.specs.declared.layout.Entry.TheVariants as entry
use Rattle.mm_page_tables.proofs.{becomes, resident_more, ages_more, more_kept, no_age, reserved_of_bound}
use Rattle.mm_page_tables.proofs.processes.Process.make_valid.Goals as goal

pub insert-place-requires-clause-reserved : goal.insert-place-requires-clause-reserved
insert-place-requires-clause-reserved c = reserved_of_bound c.args.self.now.table c.args.self.now.set c.args.self.now.is_open c.args.self.now.kept c.args.v.0 c.requires.bound

pub insert-place-requires-clause-user : goal.insert-place-requires-clause-user
insert-place-requires-clause-user c = omega (arith, c.args.self.now.kept.user c.args.v.0 c.requires.bound)

pub insert-place-requires-clause-absent : goal.insert-place-requires-clause-absent
insert-place-requires-clause-absent c = no_age c.args.self.now.table c.args.self.now.set c.args.self.now.is_open c.args.self.now.kept c.args.v.0 c.requires.invalid

pub invariant_of-self : goal.invariant_of-self
invariant_of-self c =
    let fits : IsEntry (entry.Valid c.args.f c.insert-place.result) = record { first = omega (arith, c.requires.fits); second = grind arith } in
    record {
      kept = more_kept c.args.self.now.table c.set.new.self c.args.self.now.set c.insert-place.new.self c.args.self.now.is_open c.args.v.0 c.encode.result c.args.f c.insert-place.result
          c.set.ensures c.encode.ensures c.insert-place.ensures.set c.insert-place.ensures.vacant c.requires.room c.args.self.now.kept c.requires.bound c.requires.invalid fits;
    }

pub returns-clause-becomes : goal.returns-clause-becomes
returns-clause-becomes c =
    let fits : IsEntry (entry.Valid c.args.f c.insert-place.result) = record { first = omega (arith, c.requires.fits); second = grind arith } in
    becomes c.args.self.now _ c.args.v.0 c.encode.result (entry.Valid c.args.f c.insert-place.result) c.set.ensures c.encode.ensures fits c.requires.bound refl (entry.Valid c.args.f 0) refl

pub returns-clause-resident : goal.returns-clause-resident
returns-clause-resident c = resident_more c.args.self.now.set c.insert-place.new.self c.args.v.0 c.insert-place.result c.insert-place.ensures.set c.insert-place.ensures.vacant

pub returns-clause-ages : goal.returns-clause-ages
returns-clause-ages c = ages_more c.args.self.now.set c.insert-place.new.self c.args.v.0 c.insert-place.result c.insert-place.ensures.set
