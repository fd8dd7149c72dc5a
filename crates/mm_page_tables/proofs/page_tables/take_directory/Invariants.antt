use Rattle.std.proofs.Common.{◌≡◌, vec_len}
use Rattle.mm_page_tables.specs.{PlacesMore}
use Rattle.mm_page_tables.proofs.page_tables.take_directory.Given as goal

abbrev pub invariant-loop : goal.invariant-loop
invariant-loop l = record {
  placed : PlacesMore l.fn.leaves.items l.leaves.items;
  counted : vec_len l.leaves ≡ l.counter;
}
