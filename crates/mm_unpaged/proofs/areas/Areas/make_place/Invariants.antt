use Rattle.std.proofs.Common.{◌≡◌}
use Rattle.std.specs.Prelude.{vec_len}
use Rattle.mm_unpaged.specs.{area_in, count_in}
use Rattle.mm_unpaged.proofs.areas.Areas.make_place.Given as goal

abbrev pub invariant-loop : goal.invariant-loop
invariant-loop l = record {
  areas : area_in l.self ≡ area_in l.fn.self;
  count : count_in l.self ≡ count_in l.fn.self;
  counted : vec_len l.self.areas ≡ l.counter;
}
