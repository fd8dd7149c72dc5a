use Rattle.std.proofs.Common.{◌≡◌, ℕ, List, ap, ◌∙◌, None, Option, refl, arith}
use Rattle.std.specs.Prelude.{slice_index_or}
use Rattle.std.specs.List.{sum_by}
use Rattle.std.proofs.lemmas.List.Sums.{sum_by_push}
use Rattle.mm_unpaged.specs.{AreaPages, count_of}
use Rattle.mm_unpaged.proofs.{pushed}
use Rattle.mm_unpaged.proofs.areas.Areas.make_place.Goals as goal

at : List (Option AreaPages) → ℕ → Option AreaPages
at xs q = slice_index_or xs q None

pub returns-in_err-push-clause-areas : goal.returns-in_err-push-clause-areas
unfolding at
returns-in_err-push-clause-areas c = ap at c.in_err-push.ensures.items ∙ c.loop.invariant.areas

pub loop-preserved : goal.loop-preserved
unfolding at
loop-preserved c =
    let none : count_of None ≡ 0 = refl in
    record {
      areas = ap at c.in_ok-push.ensures.items ∙ pushed c.loop.self.areas.items None ∙ c.loop.invariant.areas;
      count = omega (arith, none, ap (sum_by count_of) c.in_ok-push.ensures.items, sum_by_push count_of c.loop.self.areas.items None, c.loop.invariant.count);
      counted = omega (arith, c.in_ok-push.ensures.len, c.loop.invariant.counted);
    }
