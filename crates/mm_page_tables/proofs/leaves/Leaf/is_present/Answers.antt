use Rattle.std.proofs.Common.{◌≡◌, ◌<◌, length, arith, ◌∙◌}
use Rattle.std.proofs.lemmas.Bool.Decides.{nat_tests}
use Rattle.mm_page_tables.proofs.{all_places, some_numbers, places_shown}
use Rattle.mm_page_tables.proofs.leaves.Leaf.is_present.Goals as goal

pub returns : goal.returns
returns c =
    let ns = c.self.inside.numbers.items in
    let many = places_shown ns c.args.self.now c.self.view_is in
    let long : c.len.result ≡ length ns = c.len.ensures ∙ c.self.inside.numbers.ok.0 in (
      λ some. (let there : 0 < length ns = grind (arith, nat_tests) in omega (arith, many, all_places ns there)),
      λ some. (let there = some_numbers ns (omega (arith, many)) in grind (arith, nat_tests)),
    )
