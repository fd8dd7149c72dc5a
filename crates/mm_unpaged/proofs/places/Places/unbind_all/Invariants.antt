use Rattle.std.proofs.Common.{◌≡◌, None, false}
use Rattle.mm_store.specs.{changed_in}
use Rattle.mm_unpaged.specs.{is_bound_in, names_in, pages_at, range_from, pages_in}
use Rattle.mm_unpaged.proofs.places.Places.unbind_all.Given as goal

abbrev pub invariant-loop-i : goal.invariant-loop-i
invariant-loop-i l = record {
  bound : is_bound_in l.self ≡ changed_in l.pid (range_from l.first.0 l.i) (is_bound_in l.fn.self) false;
  names : names_in l.self ≡ changed_in l.pid (range_from l.first.0 l.i) (names_in l.fn.self) None;
  pages : pages_at l.self ≡ pages_at l.fn.self;
  number : pages_in l.self ≡ pages_in l.fn.self;
}
