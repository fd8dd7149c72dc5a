use Rattle.std.proofs.Common.{rules, refl}
use Rattle.mm_store.proofs.{served_nothing}
use Rattle.mm_unpaged.proofs.unpaged.UnpagedPageStore.complete.Goals as goal

pub returns-clause-done : goal.returns-clause-done
returns-clause-done g c = record {
  store = search rules;
  none = search rules;
  some = search rules;
  ok = search rules;
  failed = search rules;
  blamed = search rules;
  served = served_nothing _ _ refl refl refl refl refl refl;
  stored = search rules;
}
