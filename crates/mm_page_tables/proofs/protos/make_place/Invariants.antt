use Rattle.std.proofs.Common.{◌≡◌, vec_len}
use Rattle.mm_types.specs.{table}
use Rattle.mm_page_tables.specs.{words_in}
use Rattle.mm_page_tables.proofs.protos.make_place.Given as goal

abbrev pub invariant-loop : goal.invariant-loop
invariant-loop l = record {
  same : table words_in l.areas.items ≡ table words_in l.fn.areas.items;
  counted : vec_len l.areas ≡ l.counter;
}
