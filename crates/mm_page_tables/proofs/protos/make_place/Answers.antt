use Rattle.std.proofs.Common.{◌∙◌, ap, None, refl, arith}
use Rattle.mm_types.specs.{table}
use Rattle.mm_page_tables.specs.{words_in}
use Rattle.mm_page_tables.proofs.{table_push}
use Rattle.mm_page_tables.proofs.protos.make_place.Goals as goal

pub loop-preserved : goal.loop-preserved
loop-preserved c = record {
  same = ap (table words_in) c.in_ok-push.ensures.items ∙ table_push words_in c.loop.areas.items None refl ∙ c.loop.invariant.same;
  counted = omega (arith, c.in_ok-push.ensures.len);
}
