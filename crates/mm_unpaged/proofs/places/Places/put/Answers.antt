use Rattle.std.proofs.Common.{refl, Some, ap, ◌∙◌, ◌≡◌, arith}
use Rattle.mm_unpaged.specs.{BoundPlace, named_key, page_count, page_in_place}
use Rattle.mm_unpaged.proofs.{kept_by_write, count_by_write, counts_without}
use Rattle.mm_unpaged.proofs.places.Places.put.Goals as goal

pub returns-clause-names : goal.returns-clause-names
returns-clause-names c =
    let w : BoundPlace = record { named = c.in-Some.here.now.named; page = Some c.args.page } in
    kept_by_write c.args.self.now.map (c.get_mut.follows.lender w) c.args.place c.in-Some.here.now w named_key (c.get_mut.follows.holds w) c.in-Some.ensures.value refl

pub returns-clause-count : goal.returns-clause-count
returns-clause-count c =
    let w : BoundPlace = record { named = c.in-Some.here.now.named; page = Some c.args.page } in
    let count = count_by_write c.args.self.now.map (c.get_mut.follows.lender w) c.args.place c.in-Some.here.now w (c.get_mut.follows.holds w) c.in-Some.ensures.value in
    let none : page_count c.in-Some.here.now ≡ 0 = counts_without c.in-Some.here.now (ap page_in_place c.in-Some.ensures.value ∙ c.requires.empty) in
    omega (arith, count, none)
