use Rattle.std.proofs.Common.{Some, refl, sym, subst}
use Rattle.std.specs.Prelude.{IsSome}
use Rattle.mm_unpaged.specs.{BoundPlace, named_key, page_in_place}
use Rattle.mm_unpaged.proofs.{kept_by_write, count_kept_by_write, counts_some}
use Rattle.mm_unpaged.proofs.places.Places.write.Goals as goal

pub returns-clause-names : goal.returns-clause-names
returns-clause-names c =
    let w : BoundPlace = record { named = c.in-Some.here.now.named; page = Some c.write.new.self } in
    kept_by_write c.args.self.now.map (c.get_mut.follows.lender w) c.args.place c.in-Some.here.now w named_key (c.get_mut.follows.holds w) c.in-Some.ensures.value refl

pub returns-clause-count : goal.returns-clause-count
returns-clause-count c =
    let w : BoundPlace = record { named = c.in-Some.here.now.named; page = Some c.write.new.self } in
    let one = counts_some c.in-Some.here.now (subst (λ o. IsSome (page_in_place o)) (sym c.in-Some.ensures.value) c.requires.live) in
    count_kept_by_write c.args.self.now.map _ c.args.place c.in-Some.here.now w (c.get_mut.follows.holds w) c.in-Some.ensures.value (sym one)
