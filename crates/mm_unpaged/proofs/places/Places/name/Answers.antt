use Rattle.std.proofs.Common.{refl}
use Rattle.mm_unpaged.specs.{page_in_place}
use Rattle.mm_unpaged.proofs.{kept_by_write, count_kept_by_write}
use Rattle.mm_unpaged.proofs.places.Places.name.Goals as goal

pub returns-clause-pages : goal.returns-clause-pages
returns-clause-pages c = kept_by_write c.args.self.now.map _ c.args.place c.in-Some.here.now _ page_in_place (c.get_mut.follows.holds _) c.in-Some.ensures.value refl

pub returns-clause-count : goal.returns-clause-count
returns-clause-count c = count_kept_by_write c.args.self.now.map _ c.args.place c.in-Some.here.now _ (c.get_mut.follows.holds _) c.in-Some.ensures.value refl
