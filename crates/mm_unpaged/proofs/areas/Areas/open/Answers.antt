use Rattle.std.proofs.Common.{◌≡◌, ap, ◌∙◌, arith}
use Rattle.std.specs.List.{sum_by}
use Rattle.mm_unpaged.specs.{area_in, count_of, one_if_live}
use Rattle.mm_unpaged.proofs.{none_live}
use Rattle.mm_unpaged.proofs.areas.Areas.open.Goals as goal

pub returns-clause-count : goal.returns-clause-count
returns-clause-count c =
    let before : count_of (area_in c.make_place.new.self c.args.area.0) ≡ 0 = ap (λ f. count_of (f c.args.area.0)) c.make_place.ensures.areas ∙ ap count_of c.requires.new in
    let after : sum_by one_if_live c.in_ok-pages.pages ≡ 0 = ap (sum_by one_if_live) c.in_ok-pages.ensures ∙ none_live c.args.n in
    omega (arith, c.set.ensures.count, before, after, c.make_place.ensures.count)
