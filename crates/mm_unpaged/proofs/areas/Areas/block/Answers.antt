use Rattle.std.proofs.Common.{rules, ◌≡◌, ◌+◌, Some, ap, ◌∙◌, arith}
use Rattle.mm_unpaged.specs.{area_in, area_block}
use Rattle.mm_unpaged.specs.declared.areas.AreaPages.TheVariants.{Filed}
use Rattle.mm_unpaged.proofs.{in_file}
use Rattle.mm_unpaged.proofs.areas.Areas.block.Goals as goal

pub overflow_add-result : goal.overflow_add-result
overflow_add-result c =
    let f = c.in-Some-Some-Filed in
    let is : area_in c.args.self.now c.args.area.0 ≡ Some (Filed f.first f.count) = search rules in
    let there = ap (λ o. area_block o c.args.index) is ∙ in_file f.first f.count c.args.index c.if-index-count.true in
    let small = c.requires.small (f.first + c.args.index) there in
    omega (arith, small)
