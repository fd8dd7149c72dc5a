use Rattle.std.proofs.Common.{None, sym, subst, arith}
use Rattle.std.specs.Prelude.{IsSome}
use Rattle.mm_unpaged.specs.{BoundPlace, page_in_place}
use Rattle.mm_unpaged.proofs.{count_by_write, counts_some, counts_without}
use Rattle.mm_unpaged.proofs.places.Places.take.Goals as goal

pub returns-clause-count : goal.returns-clause-count
returns-clause-count c =
    let w : BoundPlace = record { named = None; page = c.take.new.self } in
    let count = count_by_write c.args.self.now.map (c.get_mut.follows.lender w) c.args.place c.in-Some.here.now w (c.get_mut.follows.holds w) c.in-Some.ensures.value in
    let one = counts_some c.in-Some.here.now (subst (λ o. IsSome (page_in_place o)) (sym c.in-Some.ensures.value) c.requires) in
    omega (arith, count, one, counts_without w c.take.ensures.after)
